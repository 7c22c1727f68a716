pub mod Laws
pub mod Runs
pub mod Sessions
pub mod Stream
pub mod Cutting
