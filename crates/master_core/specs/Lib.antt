pub mod Master
pub mod Laws
pub mod Index
