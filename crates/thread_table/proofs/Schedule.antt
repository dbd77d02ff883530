-- The schedule: what it leads to, what the hands list of it, and its joins.
pub mod Acting
pub mod Betweens
pub mod Courses
pub mod Falling
pub mod JoinEvents
pub mod ListedEvents
pub mod Marks
pub mod Once
pub mod Orders
pub mod Schedules
