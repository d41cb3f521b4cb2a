-- What the writers of replies promise, over what `rules` says. No rule stands here.
pub mod Replies
