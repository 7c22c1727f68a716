pub mod Bindings
pub mod Held
pub mod InnerPut
