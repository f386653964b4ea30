pub mod Pool
pub mod Reach
pub mod Region
pub mod Row
pub mod Writing
