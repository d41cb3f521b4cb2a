-- What these promise, over what `rules` says. No rule stands here.
pub mod Does
