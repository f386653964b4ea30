pub mod Numbers
pub mod ReadBack
pub mod Whole
mod Worked
pub mod Written
