pub mod Common
pub mod Walking
pub mod Parting
pub mod ChainParting
pub mod Stakes
pub mod Signals
pub mod Summing
