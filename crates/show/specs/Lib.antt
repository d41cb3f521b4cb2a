-- What is shown. No rule stands here.
pub mod Forms
pub mod Names
pub mod Reply
