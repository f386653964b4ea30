pub mod Holding
mod Counting
pub mod Standby
pub mod Stepping
pub mod Telling
pub mod Replying
pub mod Starting
pub mod Extending
pub mod Growing
pub mod Accepting
pub mod Standing
pub mod Finding
mod Opening
mod MissedPackets
mod Additions
mod ToldMessages
mod AddedThere
mod BroughtPackets
mod TakenUnder
mod TakingOver
mod Settles
mod FirstEvents
mod SinceEvents
pub mod FromSlots
pub mod Scripts
pub mod Replies
pub mod Places
pub mod Endings
mod StartDates
pub mod AskedEvents
