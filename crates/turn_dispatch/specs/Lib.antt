pub mod Tallies
pub mod Holdings
pub mod Sendings
pub mod Dispatches
pub mod Countings
pub mod Wakings
pub mod Tendings
