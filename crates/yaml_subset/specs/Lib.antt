pub mod Document
pub mod Laws
pub mod Blocks
pub mod Rows
pub mod Keys
pub mod Lines
