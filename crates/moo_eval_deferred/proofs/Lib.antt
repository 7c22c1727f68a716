pub mod Refused
pub mod LongerLists
pub mod ListCalls
