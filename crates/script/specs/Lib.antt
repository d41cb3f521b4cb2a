-- What a script says. No rule stands here.
pub mod Text
pub mod Digits
pub mod Line
pub mod Settings
