pub mod Live
pub mod Server
