pub mod Formats
pub mod Standing
pub mod Bounds
