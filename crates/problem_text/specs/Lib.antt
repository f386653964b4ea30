pub mod ReadAgain
pub mod RosterText
pub mod Paged
