pub mod Numbering
pub mod Positions
