-- The results of the functions over the world, and what a call of one is.
pub mod Answers
pub mod Order
pub mod Objects
pub mod Forms
pub mod Properties
pub mod Verbs
pub mod Calls
