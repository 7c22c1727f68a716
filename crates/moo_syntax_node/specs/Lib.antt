pub mod Spelling
pub mod Source
pub mod Blocks
