mod Names
mod Worked
pub mod Chains
pub mod Following
pub mod Sufficing
pub mod NearestFollows
pub mod Numbered
pub mod OneList
pub mod Places
pub mod OneName
pub mod Walking
pub mod Executions
pub mod Paths
pub mod Orders
pub mod Cuts
pub mod Attaining
pub mod Reversal
pub mod Towards
pub mod Earliest
pub mod Heights
pub mod SimplePaths
pub mod Tables
pub mod Sums
pub mod Insertions
pub mod Asking
pub mod Parents
pub mod RowPops
pub mod RowSums
pub mod RowEnds
pub mod RowStarts
pub mod RowsUnderWay
pub mod Instances
pub mod Runs
pub mod ArcInstances
mod RaiseInstances
mod RowInstances
pub mod Problems
pub mod Solutions
pub mod ProblemInstances
mod SolutionInstances
