-- The meaning of spooling.
use Rattle.std.specs.Prelude.{ℕ, List}
use Rattle.table_theory.specs.Interleaving.{Interleaves}

-- One order of all lines has the lines of each producer in its order, and no others. The same order has the lines of
-- each taker in the order in which it took them, and no others. Each line that was put was taken once
pub record IsSpooled (put taken : List (List (List ℕ))) : Type 0 where
  pub order : List (List ℕ)
  pub of_producers : Interleaves order put
  pub of_takers : Interleaves order taken
