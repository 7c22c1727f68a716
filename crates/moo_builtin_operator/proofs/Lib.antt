pub mod Wrapping
pub mod Equality
pub mod Lists
pub mod Replaced
pub mod Lawful
pub mod Found
pub mod Ranges
pub mod Stored
