-- The connections of browsers that are no WebSockets yet.
pub mod Callers
-- Who may ask.
pub mod Names
