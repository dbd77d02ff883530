pub mod Amounts
pub mod Made
pub mod Reported
pub mod Rooms
pub mod Shown
