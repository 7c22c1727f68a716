pub mod Given
pub mod Functions
