-- The state of the disk over files.
pub mod Files
-- The outcome of its last call.
pub mod News
