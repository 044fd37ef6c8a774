pub mod Walk
pub mod Trees
pub mod Levels
pub mod Places
pub mod Fleets
pub mod Owns
pub mod Ids
pub mod Growth
