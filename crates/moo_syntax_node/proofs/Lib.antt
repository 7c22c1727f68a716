pub mod Rows
pub mod Items
pub mod Constants
pub mod StatementRows
