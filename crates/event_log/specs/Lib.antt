pub mod Texts
pub mod TextsInside
pub mod Row
pub mod Log
pub mod Front
pub mod Given
