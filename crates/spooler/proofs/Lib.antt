pub mod Common
pub mod Putting
pub mod Taking
pub mod Wholes
pub mod Gathering
pub mod Settling
