-- How far an end was when its call made its pause.
use Rattle.std.specs.Prelude.{ℕ, List, [], ◌∷◌}
use Rattle.table_theory.specs.declared.queues.Positions.{Positions}
use Rattle.table_theory.specs.Ledgers.{Step, Performed}
use Rattle.claim_queue.specs.declared.ends.QueueEnd.{QueueEnd}
use Rattle.claim_queue.specs.Handles.{view_of, IsSameEnd}

-- The pause was called once, just before the last step of the call. The end was shown to the pause as it was then: it
-- had made the call's other steps, and claimed, raised, took and shut nothing. After the pause it made one step more
pub record PausedBeforeLast {P : Type 0} {n : ℕ} (Called : P → P → Type 0) (CalledAt : QueueEnd n → P → P → Type 0)
    (old new : QueueEnd n) (pause paused : P) : Type 0 where
  pub called : Called pause paused
  pub end : QueueEnd n
  pub at : CalledAt end pause paused
  pub same : IsSameEnd old end
  pub loads : List (Step Positions)
  pub before : Performed (view_of old) loads (view_of old).own (view_of end)
  pub last : Step Positions
  pub after : Performed (view_of end) (last ∷ []) (view_of new).own (view_of new)
