pub mod Keeping
pub mod Pairs
pub mod Renewals
pub mod Slots
pub mod Withdrawals
pub mod RowWithdrawals
pub mod Clearings
pub mod Pulling
