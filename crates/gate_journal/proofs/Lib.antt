pub mod Store
pub mod Splits
pub mod Making
pub mod Unique
pub mod Exact
