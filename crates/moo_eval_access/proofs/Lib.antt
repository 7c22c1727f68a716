pub mod Containers
pub mod Entered
pub mod LettingGo
pub mod Written
pub mod Longer
pub mod Counted
pub mod Bounded
pub mod Held
