pub mod Checking
pub mod Fragments
pub mod Listing
pub mod WorkedOptions
pub mod WorkedExtensions
pub mod Steps
pub mod Sameness
pub mod Walking
