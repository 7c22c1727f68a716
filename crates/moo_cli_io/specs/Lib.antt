-- The record of failures of the devices and of memory.
pub mod Watching
-- The status and the line of a refusal.
pub mod Refused
-- A part of a line.
pub mod Parts
-- The line of a fault.
pub mod Told
-- When the program gives up.
pub mod GivingUp
