pub mod Lines
pub mod Script
pub mod Refusals
pub mod Top
pub mod Draft
pub mod Fleet
pub mod Turns
