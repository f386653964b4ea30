mod ClockNames
mod Dotted
mod Grouped
pub mod Following
pub mod Searching
mod Faults
mod Optional
mod ClockPlaces
mod ClockTurns
mod NoClock
mod HostTurns
mod LabelTurns
mod LookingUp
mod LinkTurns
mod Walking
mod Fresh
mod Lawful
mod LawfulWhole
mod Wholes
mod SubnetTexts
mod SubnetTurns
