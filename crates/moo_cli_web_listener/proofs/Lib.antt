pub mod Calling
pub mod Naming
pub mod Stepping
