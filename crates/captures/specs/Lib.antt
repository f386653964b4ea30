pub mod Formats
pub mod Capture
pub mod Feeding
pub mod Kept
