pub mod Images
pub mod Making
pub mod Faults
pub mod PartReads
pub mod Stops
