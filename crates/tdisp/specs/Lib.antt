-- What the exported functions give, in the words of rules.
pub mod Shown
