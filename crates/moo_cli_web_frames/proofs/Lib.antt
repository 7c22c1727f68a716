pub mod Accepting
pub mod Pieces
pub mod Reading
pub mod Shown
pub mod Stepping
