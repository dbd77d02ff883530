-- What is drawn of a boot script, line by line: its names, and the limits of its plan.
pub mod NamesSoFar
pub mod NameOrder
pub mod DraftOrder
pub mod PlanGrowth
pub mod SaidRanges
pub mod PlanLimits
pub mod Drawn
