pub mod Showing
pub mod Solutions
pub mod ContradictionTexts
pub mod Hands
pub mod Consistency
mod OneReply
pub mod KeptTimes
pub mod ListedAnswers
pub mod ListedPairs
