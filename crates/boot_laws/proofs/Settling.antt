-- The sum of all events of a closed table.
pub mod Common
pub mod Moves
pub mod Steps
pub mod Signals
pub mod Freed
pub mod Retired
pub mod Named
pub mod Reading
