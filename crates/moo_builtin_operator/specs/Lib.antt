-- What the operations give, and how a call's result relates to it.
pub mod Answer
pub mod Truth
pub mod Arithmetic
pub mod Comparison
pub mod Operators
pub mod Places
pub mod Assignment
-- What they keep to.
pub mod Laws
-- Definitions that only private clauses use.
pub mod Bounds
