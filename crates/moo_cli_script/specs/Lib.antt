-- What a step of a script does to a server and its disk.
pub mod Script
-- What is printed at the end of a script.
pub mod Told
-- What all lines of a script do.
pub mod Playing
-- What lines do, as calls of the server.
pub mod Course
-- What private clauses alone cite.
pub mod Works
-- The forms of a script's lines.
pub mod ScriptLines
-- Definitions that only private clauses use.
pub mod Kinds
-- The lines of a text.
pub mod Lines
-- The printed lines.
pub mod Printed
