pub mod Common
mod Apart
mod Documents
mod Flat
mod Growing
mod Joined
mod Masks
mod Numbers
mod Plans
mod Printing
mod Runs
mod Starts
mod Turning
mod Values
