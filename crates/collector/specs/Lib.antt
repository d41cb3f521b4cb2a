-- What the promises of this crate say of its structs, over what `rules` says.
pub mod Kept
pub mod Says
