pub mod Placed
pub mod Stored
