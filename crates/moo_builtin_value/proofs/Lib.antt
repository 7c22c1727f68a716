pub mod TextBytes
pub mod Replacing
pub mod Spelled
pub mod Making
pub mod Searched
pub mod Joined
pub mod NewLists
pub mod Occurring
