pub mod Statements
pub mod Firsts
pub mod VariableSteps
