pub mod Elements
pub mod SeenUnder
pub mod Placing
pub mod KeptEvents
pub mod Commands
pub mod Spacing
pub mod Asking
pub mod OneCommand
mod LineLengths
mod Numbers
mod GreatestOrNone
mod OneProof
mod LawfulStates
mod FoundReads
mod WholeScripts
pub mod OneReply
mod OneOrder
mod OneTimes
mod Agreeing
mod Texts
mod Stopping
