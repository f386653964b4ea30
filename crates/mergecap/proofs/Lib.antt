mod Links
mod OneOrder
pub mod Orders
mod ReadBack
mod Records
mod Worked
