-- Laws that belong to no one function.
pub mod Moved
pub mod OnePass
