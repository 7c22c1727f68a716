-- The results of the functions on strings, and those from and to strings.
pub mod TextAnswers
pub mod Numerals
pub mod Spelling
pub mod Conversions
pub mod Texts
pub mod Inner
-- The results of the functions over values alone.
pub mod Answers
pub mod Looks
pub mod Numbers
pub mod Lists
pub mod Calls
