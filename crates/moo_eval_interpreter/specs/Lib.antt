pub mod Chosen
pub mod Codes
