-- The lines of events: read, spelled, read again, and invalid.
pub mod Items
pub mod EventsRead
pub mod Claims
pub mod Spelled
pub mod Again
pub mod Faults
pub mod Texts
pub mod Schedules
