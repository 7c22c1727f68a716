pub mod Names
mod Rows
mod Seeking
mod Fitting
mod Patterns
mod Letters
mod VerbNumbers
mod Filter
mod Index
mod Alone
mod Verbs
mod Numbers
mod Numbered
