mod Lists
mod Headers
mod Records
pub mod Streams
mod Reading
mod Growing
pub mod Judging
pub mod Bounds
