pub mod Common
mod Owners
mod Holding
mod Calls
mod Ends
mod Left
mod Filling
mod Working
