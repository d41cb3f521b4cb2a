-- Laws that belong to no one function.
pub mod Falls
pub mod Alls
pub mod Ints
