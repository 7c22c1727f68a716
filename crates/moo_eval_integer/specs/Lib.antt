pub mod Functions
pub mod Integers
pub mod Puts
pub mod Operands
