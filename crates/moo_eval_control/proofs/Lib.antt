pub mod Shared
pub mod OneSharing
pub mod Rest
pub mod Scattered
pub mod Told
pub mod Named
