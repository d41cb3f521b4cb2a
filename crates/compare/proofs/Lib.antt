-- Laws that belong to no one function.
pub mod Same
pub mod Puts
pub mod Messages
pub mod Printed
