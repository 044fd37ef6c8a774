pub mod Flat
pub mod Faults
pub mod Core
pub mod Limits
pub mod Globs
