pub mod Items
pub mod Pushing
pub mod Order
pub mod GraphSolution
pub mod Turns
pub mod Offsets
pub mod Queues
pub mod Times
