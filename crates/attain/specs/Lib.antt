pub mod Cuts
pub mod Ends
pub mod Intervals
pub mod ListedProblem
pub mod RowLists
pub mod Sides
pub mod Tight
pub mod Written
