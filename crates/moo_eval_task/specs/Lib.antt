pub mod Seen
pub mod Hooks
pub mod SetTo
pub mod Element
pub mod Leaves
pub mod Attempts
pub mod Arguments
