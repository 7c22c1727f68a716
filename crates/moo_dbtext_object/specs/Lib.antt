-- The contents of an object, and its lines.
pub mod Objects
-- Reading objects line by line.
pub mod ObjectReading
-- The lines of numbers, strings and values.
pub mod Lines
pub mod ValueLines
-- Reading values line by line.
pub mod Reading
pub mod Until
