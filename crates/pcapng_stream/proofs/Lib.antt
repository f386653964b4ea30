mod Stamps
mod Walking
mod Counts
mod Heads
mod Rows
mod Counting
pub mod Streams
pub mod Judging
pub mod Skipping
mod Growing
mod Reading
pub mod Bounds
mod Worked
