-- What the programs start from, and how bytes are printed. No rule stands here.
pub mod Form
pub mod Full
pub mod Requests
