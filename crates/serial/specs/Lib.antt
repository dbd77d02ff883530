pub mod Made
pub mod Notes
pub mod Sent
pub mod Texts
