pub mod Places
pub mod Growing
pub mod ReadingOrder
pub mod Written
pub mod Forms
pub mod Taking
pub mod OneLine
pub mod Steps
pub mod Answering
pub mod OwnReadings
pub mod AllReadings
pub mod ListedNodes
pub mod Searching
pub mod Naming
mod OneLink
mod Counted
mod Linked
mod Joined
mod Renumbering
mod Nearby
