pub mod TurnLemmas
pub mod Answered
pub mod NextCalls
