pub mod Numbers
pub mod Declaring
pub mod Conducting
pub mod OneText
pub mod Completing
mod MergedScripts
mod DatedScripts
mod Wholes
mod Worked
mod Requests
