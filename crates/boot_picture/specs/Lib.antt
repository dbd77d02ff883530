pub mod Blocks
pub mod Clear
pub mod Lanes
pub mod Orders
pub mod Pictures
pub mod Places
