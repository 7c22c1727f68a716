pub mod Frames
pub mod Dispatch
pub mod Login
pub mod DotProgram
pub mod Events
pub mod Interval
pub mod Input
pub mod Inner
