pub mod Runs
pub mod BigPatterns
pub mod Turns
pub mod Words
pub mod Pieces
