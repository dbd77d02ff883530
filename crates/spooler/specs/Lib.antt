pub mod Doings
pub mod Ends
pub mod Lines
pub mod Spooled
pub mod Wholes
