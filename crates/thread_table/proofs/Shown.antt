-- What the words of the table show, bit by bit and word by word.
pub mod Bits
pub mod Laying
pub mod Masks
pub mod Opening
pub mod Outside
pub mod QueueWords
pub mod StateBits
