-- What a program does that serves connections: a server over a disk in calls of one event each, round by round.
pub mod Console
pub mod Course
pub mod Found
pub mod Hearing
pub mod Idle
pub mod Printed
pub mod Program
pub mod Room
pub mod Rounds
pub mod Service
pub mod Silence
pub mod Status
pub mod Strangers
pub mod Writing
