pub mod Drawings
pub mod Histories
