pub mod Lists
pub mod Invariant
pub mod Laws
pub mod Settles
