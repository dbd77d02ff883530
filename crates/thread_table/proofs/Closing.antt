-- What closing a table answers.
pub mod Freed
pub mod Locating
pub mod Retiring
pub mod Settling
pub mod WhereElementsStand
