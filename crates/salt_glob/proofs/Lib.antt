pub mod Lists
pub mod Folds
pub mod Members
pub mod Pieces
pub mod Searches
pub mod Leads
pub mod Fronts
pub mod Starts
