pub mod Content
pub mod Creation
pub mod Loading
pub mod Additions
pub mod Laws
