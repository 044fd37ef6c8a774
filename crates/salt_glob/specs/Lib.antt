pub mod Classes
pub mod Globs
pub mod Fronts
pub mod LowerCase
pub mod Places
