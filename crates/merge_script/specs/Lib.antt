pub mod Gathered
pub mod Merged
pub mod Notes
pub mod Turns
pub mod Dated
