pub mod ListCall
pub mod LongerList
pub mod Deferred
