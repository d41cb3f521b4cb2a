-- Laws that belong to no one function.
pub mod Making
pub mod Collecting
