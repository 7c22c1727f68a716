pub mod Commands
pub mod Cutting
pub mod Streams
