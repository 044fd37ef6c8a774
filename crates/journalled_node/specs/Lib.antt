pub mod State
pub mod Calls
pub mod Orders
pub mod Loading
pub mod Starts
