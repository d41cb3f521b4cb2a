-- Laws that belong to no one function.
pub mod Marks
pub mod Scans
pub mod Slots
