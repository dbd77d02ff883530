pub mod Lending
pub mod Laws
pub mod Holdings
pub mod Handles
pub mod Between
pub mod Turns
