-- The output of `moo check` and `moo copy`.
pub mod Database
-- Every program of a database text that is refused.
pub mod Survey
-- A reader of them between two pieces.
pub mod Reading
-- The output for a database.
pub mod Shown
-- The answers of two readers of equal bytes.
pub mod Answers
