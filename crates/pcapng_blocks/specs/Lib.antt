pub mod Bytes
pub mod File
pub mod Reading
pub mod Texts
