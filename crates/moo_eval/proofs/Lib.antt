pub mod Ending
pub mod Held
pub mod Texts
