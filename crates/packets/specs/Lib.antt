pub mod Packets
pub mod Streams
pub mod Passed
pub mod Dropped
