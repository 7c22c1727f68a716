pub mod Shown
pub mod Noted
pub mod After
pub mod Ended
pub mod Answered
