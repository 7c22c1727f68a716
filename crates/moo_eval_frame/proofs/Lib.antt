pub mod GivenNames
pub mod FirstValues
pub mod Newest
pub mod Stored
pub mod Measured
pub mod Rows
pub mod Options
