pub mod CallOnward
pub mod CallUnique
pub mod CallWider
pub mod Called
pub mod Moving
pub mod Creating
pub mod HookRecycling
mod Moved
mod HookUnique
mod Unique
mod UniqueTask
mod HookOnward
mod Onward
mod HookWider
mod Wider
mod Choices
mod Room
mod Ticking
mod Following
mod Recycling
mod Agreed
mod Begun
mod Entering
mod Functions
