pub mod Orders
pub mod Times
pub mod NodeOrders
mod Instances
