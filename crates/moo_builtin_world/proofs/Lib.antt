pub mod Answered
pub mod Changed
pub mod Informed
pub mod Accepted
