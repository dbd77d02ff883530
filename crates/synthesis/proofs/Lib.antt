pub mod Boots
pub mod Words
pub mod Causes
pub mod Exiting
