pub mod Report
pub mod Merging
pub mod KeyTexts
pub mod Alone
pub mod Groups
pub mod Reports
pub mod Counts
pub mod Inside
