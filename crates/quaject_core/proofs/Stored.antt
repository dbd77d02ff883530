-- What is stored, and what each event makes of it.
pub mod Chains
pub mod Elements
pub mod Full
pub mod Joins
pub mod Layout
pub mod Lifts
pub mod Rings
pub mod Numbers
pub mod Owners
pub mod Parts
pub mod Past
pub mod Queues
