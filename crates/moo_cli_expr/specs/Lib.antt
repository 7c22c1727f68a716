-- The first line of an input.
pub mod FirstLine
-- The output of `moo expr`.
pub mod Expr
-- Definitions that only private clauses use.
pub mod Held
