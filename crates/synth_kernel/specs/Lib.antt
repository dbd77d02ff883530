pub mod Boots
pub mod Faults
pub mod Gatherings
pub mod Readies
pub mod Stops
