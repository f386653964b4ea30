pub mod Sent
mod Counting
pub mod Members
pub mod Ids
pub mod Marks
pub mod CoupleEnds
pub mod Grouped
pub mod MessageEnds
pub mod Lists
pub mod Names
pub mod Places
pub mod Follows
pub mod Whole
pub mod Seen
pub mod Keys
pub mod Beginnings
pub mod Chains
pub mod Alone
