pub mod MergedCapture
pub mod Packets
pub mod Reading
