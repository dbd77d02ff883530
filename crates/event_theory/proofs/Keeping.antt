-- What every event and every schedule keeps, over plain data.
pub mod Accounts
pub mod Chains
pub mod Elements
pub mod Events
pub mod First
pub mod Joins
pub mod Meters
pub mod Places
pub mod Queues
pub mod Rooms
pub mod Steps
pub mod Threads
