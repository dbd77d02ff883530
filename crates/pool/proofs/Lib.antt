pub mod Common
mod Owners
mod Steps
mod Holding
mod Acquiring
mod Permits
mod Releasing
mod Joining
mod Filling
mod Working
