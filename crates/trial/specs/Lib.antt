pub mod Declaration
pub mod Draws
pub mod Rounds
pub mod Workload
