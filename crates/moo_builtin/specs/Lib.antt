-- The calls of plain functions.
pub mod Calls
pub mod Outcomes
pub mod Lacking
pub mod Laws
-- The results of the functions on the code of verbs.
pub mod Answers
pub mod Listed
pub mod Telling
pub mod Setting
pub mod CodeCalls
