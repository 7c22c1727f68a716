-- The programs of the sources of a text.
pub mod Says
-- The faults that are reported of a source that is no program.
pub mod Faults
-- The state of a reader between two pieces.
pub mod Reading
-- The faults that are reported of objects.
pub mod Objects
-- The answers of a reader.
pub mod Loading
-- A reader between two pieces.
pub mod Taking
pub mod Feeding
-- The reasons why bytes are refused.
pub mod Refusals
-- A saved world, and the bytes that spell it.
pub mod Saved
