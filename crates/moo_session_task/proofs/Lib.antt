pub mod Potential
pub mod Taking
pub mod Names
pub mod Ending
pub mod Steps
pub mod Unique
pub mod Depths
