pub mod Caught
pub mod Counting
mod ObjectCalls
mod Passing
mod Known
mod Operands
mod Prepended
mod ListCalls
mod Spliced
mod Choosing
mod Conditional
