-- What a call of a script does, in the words of rules.
pub mod Made
