pub mod Replay
pub mod Output
