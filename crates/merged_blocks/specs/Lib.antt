pub mod Taps
pub mod Descriptions
pub mod Remarks
pub mod MergedFile
pub mod Reading
pub mod Ready
