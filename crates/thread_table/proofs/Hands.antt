-- What a hand has and knows, through its steps, a split and a join.
pub mod AfterSplits
pub mod CountSteps
pub mod HeldLists
pub mod JoinSteps
pub mod OnlyLoads
pub mod Making
pub mod Releases
pub mod Renaming
pub mod SplitSteps
pub mod Strangers
pub mod Unchanged
