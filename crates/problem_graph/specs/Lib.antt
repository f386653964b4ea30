pub mod Standing
pub mod BoundArcs
pub mod ListedProblem
pub mod ListedStanding
pub mod HeldBounds
