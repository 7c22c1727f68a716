mod Due
pub mod Order
mod Empty
pub mod UniqueLines
pub mod Unique
pub mod Agreeing
pub mod Hookless
pub mod Carried
pub mod Kept
pub mod Typed
pub mod RunTyped
mod Layer
mod Within
mod Mapped
pub mod Moved
pub mod Joined
mod Quiet
mod Outputs
pub mod CutRun
