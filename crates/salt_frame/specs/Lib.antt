pub mod Frames
pub mod Fronts
pub mod Buffer
pub mod BufferFields
pub mod Laws
pub mod Runs
