-- The queue at a moment of a call.
use Rattle.std.specs.Prelude.{◌≡◌, ◌≢◌, ◌<◌, ◌≤◌, ℕ, false, ◌∷◌, length}
use Rattle.std.specs.List.{AllByRecursion}
pub use Rattle.table_theory.specs.Moments.{AtSomeMoment, AtTwoMoments}
use Rattle.table_theory.specs.Ledgers.{Step}
use Rattle.batch_queue.specs.declared.rule.BatchState.{BatchState}
use Rattle.batch_queue.specs.Object.{items_of, mark_of, phase_at}
use Rattle.batch_queue.specs.Own.{View}

-- the number of items that were claimed
abbrev pub claimed : BatchState → ℕ
claimed o = length (items_of o)

-- the queue is open, and this position is its head
abbrev pub IsOpenAt : BatchState → ℕ → Type 0
IsOpenAt o head = (o.shut ≡ false) × (claimed o ≡ head)

-- the places of all positions before `free` are given back, and the place of `free` is not
abbrev pub IsGivenBackTo : BatchState → ℕ → Type 0
IsGivenBackTo o free = ((i : ℕ) → i < free → 3 ≤ phase_at o i) × (phase_at o free < 3)

-- the step changed nothing
abbrev pub IsLoad : Step BatchState → Type 0
IsLoad step = step.next ≡ step.then

-- Holds was true of the queue at a moment of the call, and the end had changed nothing before it in this call
pub record BeforeChanges (v w : View) (Holds : BatchState → Type 0) : Type 0 where
  pub moment : AtSomeMoment v w Holds
  pub quiet : AllByRecursion IsLoad moment.before

-- Holds was true of the queue at two moments of the call, the first before the second. The end changed nothing from the
-- first to the second, so other ends made the difference
pub record ChangedByOthers (v w : View) (Holds : BatchState → BatchState → Type 0) : Type 0 where
  pub moments : AtTwoMoments v w Holds
  pub quiet : AllByRecursion IsLoad (moments.first ∷ moments.between)

-- other ends changed the mark of the place of this position during the call
abbrev pub MarkChanged : View → ℕ → View → Type 0
MarkChanged v p w = ChangedByOthers v w (λ o later. mark_of o p ≢ mark_of later p)
