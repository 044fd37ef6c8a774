pub mod Codes
pub mod Spelling
pub mod Limits
pub mod FitTest
pub mod Decoding
pub mod RoundTrip
pub mod FirstFault
pub mod Budget
