mod Courses
pub mod Crashing
pub mod Growing
pub mod Handed
pub mod Moments
pub mod Played
pub mod Serving
pub mod Steps
pub mod Taken
pub mod Forms
pub mod Hexes
pub mod Numbers
pub mod OneStep
pub mod Splits
pub mod Cutting
pub mod Taking
