pub mod Asked
pub mod Trials
pub mod Sessions
pub mod Complete
pub mod MergedCapture
pub mod Runs
pub mod DatedCapture
