pub mod Bringing
pub mod Seeking
mod HostClocks
pub mod Orders
pub mod Entered
pub mod OneEvent
pub mod Messages
pub mod OneMessage
mod Later
mod Extending
pub mod Flags
pub mod ToldArcs
pub mod Forgetting
pub mod Leaving
mod FewSteps
mod Roomier
mod Rooms
mod StepInstances
pub mod Held
pub mod Carried
pub mod Alike
pub mod Local
pub mod NewEnds
pub mod Gaining
pub mod Pushed
pub mod InARow
pub mod Both
pub mod Staying
pub mod Naming
mod Matching
pub mod WholeGraph
pub mod Changed
