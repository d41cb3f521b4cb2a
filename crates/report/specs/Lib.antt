-- What a struct of this crate says, in the words of rules.
pub mod Shown
