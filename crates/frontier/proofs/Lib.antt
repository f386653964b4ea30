pub mod Ends
pub mod Filling
pub mod Lowering
pub mod Moving
pub mod Root
pub mod Tables
pub mod Waiting
pub mod Widening
