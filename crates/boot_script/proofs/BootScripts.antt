-- The lines of a boot script: read, spelled, read again, and invalid.
pub mod Faults
pub mod Readers
pub mod WaysRead
pub mod Spelled
pub mod Again
pub mod Texts
pub mod Named
pub mod WaysSoFar
pub mod LinesDrawn
