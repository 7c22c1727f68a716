pub mod SeenByHooks
pub mod Turns
