pub mod Stores
pub mod Rising
pub mod Outcomes
