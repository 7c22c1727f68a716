pub mod Lengths
pub mod LineLengths
