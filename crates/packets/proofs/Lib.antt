pub mod Collecting
pub mod Fronts
pub mod Bounds
