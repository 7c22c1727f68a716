pub mod Rest
pub mod Lines
pub mod Reading
pub mod Inner
