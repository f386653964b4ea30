pub mod Facing
pub mod Relaxed
pub mod Guides
pub mod Searched
pub mod Changes
pub mod Reaches
pub mod Wiping
pub mod Ends
