pub mod Counting
pub mod Elements
pub mod Keeping
pub mod Listing
pub mod Pieces
pub mod Rising
pub mod Sent
