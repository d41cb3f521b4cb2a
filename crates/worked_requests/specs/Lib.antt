-- What the program asks. No rule stands here.
pub mod Asked
