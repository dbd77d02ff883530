pub mod Ends
pub mod Pointing
