pub mod Limits
pub mod Tree
pub mod Fleet
pub mod Causes
pub mod Growth
pub mod Laws
pub mod Places
