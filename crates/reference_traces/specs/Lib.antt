pub mod Ends
pub mod Groups
pub mod Known
pub mod Added
