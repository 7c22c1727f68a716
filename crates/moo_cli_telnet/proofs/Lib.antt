pub mod Cutting
pub mod Streams
