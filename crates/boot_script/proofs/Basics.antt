-- Lists, tests and results.
pub mod Cuts
pub mod Gathered
pub mod Binds
pub mod Bools
pub mod SameWords
pub mod Seen
