-- A whole boot: what was planned, said and heard, and its end.
pub mod Sorting
pub mod Booting
pub mod ShutDown
pub mod Planning
pub mod Saying
