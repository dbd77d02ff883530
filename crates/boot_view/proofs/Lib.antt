pub mod Common
pub mod Answering
mod Fronts
