pub mod Staying
mod Longer
mod Fewer
mod Lending
mod Searching
pub mod Returning
mod Telling
mod KeptSlots
mod Asked
mod Loans
mod Cutting
