-- Each is refused by a statement of demands.
pub mod Wrong
pub mod WrongInRun
pub mod WrongCollecting
