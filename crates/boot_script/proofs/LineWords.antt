-- The words of a line, and how each kind is read and spelled.
pub mod Numbers
pub mod KnownBytes
pub mod Named
pub mod Plain
pub mod Readers
pub mod Rows
pub mod Openings
pub mod HeardLines
