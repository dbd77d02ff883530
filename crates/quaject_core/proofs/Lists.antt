-- Lists and bits.
pub mod Bits
pub mod Mapped
