pub mod EndLists
pub mod Outcomes
pub mod Accounts
pub mod Gates
pub mod Points
pub mod QueueEnds
