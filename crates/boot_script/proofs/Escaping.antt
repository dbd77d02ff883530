-- Texts in quotes: their bytes, and how each is escaped.
pub mod Unescaped
pub mod Escapes
pub mod TextsRead
