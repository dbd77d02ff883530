-- Lists and histories.
pub mod Histories
pub mod Inversions
pub mod Placed
