mod Unchanged
mod Replies
mod Stretches
mod Extremes
mod Texts
mod AnyNumber
