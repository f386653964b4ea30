pub mod OneMore
pub mod MadeArcs
pub mod Numbering
pub mod Ends
pub mod BoundEnds
pub mod NodeNumbers
pub mod ListedExecutions
pub mod HeldStanding
