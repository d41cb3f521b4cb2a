-- What our user demands, a file for each demand, stated of any machine `next`: what a call gives on a table.
pub mod Machine
pub mod Answers
pub mod Exactly
pub mod Reports
pub mod Histories
pub mod Swaps
pub mod ReportStays
pub mod Collecting
pub mod Collected
