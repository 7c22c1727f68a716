pub mod Carrying
pub mod Closing
pub mod Coursing
pub mod Events
mod Finding
pub mod Hearing
pub mod Idling
pub mod PrintedLines
pub mod Rounding
pub mod Serviced
mod Unheard
pub mod Writing
