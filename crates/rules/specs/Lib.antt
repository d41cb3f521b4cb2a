-- Document 01, a file a heading, in its order; then what document 02 adds.
pub mod Bytes
pub mod Identity
pub mod Range
pub mod Lock
pub mod Record
pub mod Table
pub mod Report
pub mod Request
pub mod Change
pub mod Call
pub mod Worked
pub mod Collector
