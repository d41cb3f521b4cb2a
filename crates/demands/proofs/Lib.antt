-- The demands, proved of `step`.
pub mod Lists
pub mod Answers
pub mod Exactly
pub mod Reports
pub mod Lookups
pub mod Turns
pub mod Tells
pub mod Histories
pub mod Places
pub mod Named
pub mod Swaps
pub mod Lasting
pub mod ReportStays
pub mod Collecting
pub mod Holding
pub mod Asked
pub mod Collected
