mod Joined
mod Lacking
pub mod Once
pub mod Wider
pub mod Heavy
pub mod Lines
pub mod Coming
pub mod CodeOnce
pub mod CodeWider
