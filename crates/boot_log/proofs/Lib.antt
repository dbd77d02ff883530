pub mod Common
pub mod Ascending
pub mod Fixed
pub mod Growth
pub mod Knowing
pub mod Passed
pub mod Runs
