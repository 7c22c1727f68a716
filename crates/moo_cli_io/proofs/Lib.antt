pub mod AtEnd
pub mod GivenUp
pub mod Joined
