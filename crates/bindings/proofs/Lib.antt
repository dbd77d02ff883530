mod BatchEnds
mod Buffers
pub mod Calls
mod HandFits
mod HandKeeps
mod Holding
mod Publishing
mod QueueEnds
mod Runs
mod Telling
mod Walking
mod Handing
