-- Laws that belong to no one function.
pub mod Lent
pub mod Sweeping
pub mod Writing
pub mod Happening
