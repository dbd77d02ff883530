-- The closed queues and chains by the logs.
pub mod Items
pub mod Dids
pub mod Stakes
pub mod Weaving
pub mod Chains
pub mod Takings
pub mod Notes
pub mod Stations
pub mod QueueEnds
pub mod Raws
pub mod Shutting
