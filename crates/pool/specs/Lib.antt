pub mod Buffers
pub mod Holdings
pub mod Handles
pub mod Between
pub mod Turns
pub mod Lending
pub mod Laws
