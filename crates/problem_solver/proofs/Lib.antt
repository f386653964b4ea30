pub mod Orders
pub mod ItemSteps
pub mod Covering
pub mod Bringing
pub mod ItemArcs
pub mod PushedItems
pub mod Counting
