-- Laws that belong to no one function.
pub mod Zeros
pub mod Numbers
pub mod Records
