pub mod Common
pub mod Basics
pub mod LineWords
pub mod Escaping
pub mod EventScripts
pub mod BootScripts
pub mod Drafts
pub mod Input
