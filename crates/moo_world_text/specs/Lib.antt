-- The texts of permissions and specifiers.
pub mod Permissions
pub mod Specifiers
pub mod Laws
