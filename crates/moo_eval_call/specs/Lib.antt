pub mod Spliced
pub mod Laws
