pub mod Common
pub mod BlockTurns
pub mod BoxLists
pub mod Clears
pub mod Clocks
pub mod Orders
pub mod Placing
