pub mod Answered
pub mod FirstLine
pub mod HeldSoFar
pub mod Printed
