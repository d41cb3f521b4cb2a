-- Laws that belong to no one function.
pub mod Places
pub mod Spelling
pub mod HexBytes
pub mod Setting
