-- The built-in functions: their names, their arguments, and the calls that are refused before a function reads its
-- arguments.
pub mod Table
pub mod Names
pub mod Check
pub mod Laws
