pub mod CheckedText
pub mod Ends
pub mod Faults
pub mod Reasons
pub mod Verdict
pub mod Walks
pub mod Widened
pub mod Sizes
