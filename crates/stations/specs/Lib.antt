pub mod Splits
pub mod Shares
pub mod Partings
