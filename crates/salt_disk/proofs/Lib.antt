pub mod Moments
pub mod Torn
pub mod Record
pub mod Blots
pub mod Images
pub mod StageLemmas
