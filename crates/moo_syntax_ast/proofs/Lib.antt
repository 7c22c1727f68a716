pub mod Rows
pub mod Sizes
pub mod EachOnce
pub mod GivenNames
pub mod Spelled
pub mod Numbered
