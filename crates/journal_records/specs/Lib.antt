pub mod Codes
pub mod Spelling
pub mod Limits
pub mod RoundTrip
pub mod Decoding
