pub mod Words
pub mod Replies
pub mod Consistent
pub mod Clocks
pub mod Asking
pub mod Answers
pub mod Contradiction
pub mod HeldAnswers
