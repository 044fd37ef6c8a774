pub mod Appends
pub mod Payloads
pub mod Loads
