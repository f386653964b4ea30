pub mod Values
pub mod Inserted
pub mod UnderWay
pub mod Copied
pub mod Marked
pub mod Steps
pub mod Withdrawn
