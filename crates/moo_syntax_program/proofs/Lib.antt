pub mod Searched
pub mod Folded
