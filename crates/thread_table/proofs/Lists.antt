-- Lists of any entries: how many pass a test, copies, entries put one after the other, another order.
pub mod BitSets
pub mod Copies
pub mod Counts
pub mod Entries
pub mod Shuffles
