pub mod Parts
pub mod Pools
pub mod Regions
pub mod TwoRows
