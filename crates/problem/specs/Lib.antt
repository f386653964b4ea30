pub mod Growing
pub mod Inside
pub mod Line
pub mod Reading
pub mod Written
pub mod Faults
pub mod Listing
pub mod Nearest
