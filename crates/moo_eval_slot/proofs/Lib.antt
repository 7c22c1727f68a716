pub mod Names
pub mod Hinted
pub mod InnerPuts
pub mod Room
