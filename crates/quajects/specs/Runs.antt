-- The result of running notes at a quaject.
use Rattle.std.specs.Prelude.{◌≡◌, ℕ, zero, suc, List, length}
use Rattle.proc_chain.specs.declared.quaject.Ran.{Ran}

module _ {Q : Type 0} where
  -- x results from the first by this many runs, one after the other
  abbrev pub RanAll : (Q → Q → Ran → Type 0) → ℕ → Q → Q → Type 0
  RanAll ran zero first x = x ≡ first
  RanAll ran (suc n) first x = (between : Q) × (answer : Ran) × RanAll ran n first between × ran between x answer

  -- x results from the first by as many runs as this list has notes. It has the first one's ends and counted the notes.
  -- Its numbers and its ends changed by the tries of these runs and by nothing else
  pub record MadeBy (same : Q → Q → Type 0) (counted : Q → List ℕ → Type 0) (ran : Q → Q → Ran → Type 0) (first x : Q)
      (notes : List ℕ) : Type 0 where
    pub same_ends : same first x
    pub count : counted x notes
    pub runs : RanAll ran (length notes) first x
