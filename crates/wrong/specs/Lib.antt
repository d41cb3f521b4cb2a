-- Wrong responders, report readers and writers, and collectors.
pub mod Wrong
pub mod WrongInRun
pub mod WrongCollecting
