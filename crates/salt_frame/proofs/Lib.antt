pub mod Readings
pub mod FrontLemmas
pub mod FeedLemmas
pub mod HoldLemmas
pub mod RunLemmas
