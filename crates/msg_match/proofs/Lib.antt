pub mod Placing
pub mod Distinct
pub mod Grouping
pub mod Keeping
pub mod KeyTests
pub mod TableLemmas
pub mod Counting
pub mod Coupling
pub mod Changing
pub mod MessageEnds
mod Lists
mod Rising
pub mod Names
pub mod Sorting
mod Firsts
pub mod Gathered
pub mod GroupedEnds
mod Scanned
mod Stops
mod AllCouples
mod Kept
mod Coupled
mod Renamed
mod Counted
pub mod ByNumber
pub mod Growing
pub mod Grown
mod Worked
