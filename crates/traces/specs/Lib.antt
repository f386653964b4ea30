pub mod Beginnings
pub mod Traces
pub mod Messages
pub mod Held
pub mod Pairs
pub mod Windows
pub mod Making
pub mod Seen
