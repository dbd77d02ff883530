pub mod BootPlans
pub mod Hearing
pub mod PlanLimits
pub mod Plans
pub mod QueueLists
pub mod Stores
