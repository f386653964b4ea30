pub mod Capture
pub mod Feeding
pub mod Inside
