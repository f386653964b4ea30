pub mod FewFollows
pub mod Lengths
pub mod ListedLines
pub mod Paging
pub mod OneProblem
mod Lists
mod Ids
mod LineTexts
mod Follows
mod Told
