pub mod Answering
pub mod Logs
pub mod Trial
