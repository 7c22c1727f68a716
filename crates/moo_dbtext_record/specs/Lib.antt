-- Programs by object and verb.
pub mod Programs
-- The contents of a database text, and its lines.
pub mod Texts
-- Reading line by line, and in pieces.
pub mod Headings
pub mod DumpReading
pub mod Answer
pub mod Cutting
pub mod Sparing
pub mod Placing
-- Writing a text.
pub mod Writing
-- The report of a refusal.
pub mod Faults
