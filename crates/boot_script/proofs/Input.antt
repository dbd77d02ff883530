-- Text that is read from a reader, buffer by buffer.
pub mod Filled
pub mod Known
pub mod Calling
pub mod Buffers
