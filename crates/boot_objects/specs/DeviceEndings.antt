-- The work of a tty's device, once the device has returned.
use Rattle.std.specs.Prelude.{◌≡◌, ◌⊎◌, ◌+◌, ℕ, List, [], ◌∷◌}
use Rattle.std.specs.List.{concat}
use Rattle.boot_data.specs.declared.plan.PlannedTty.{PlannedTty}
use Rattle.claim_queue.specs.declared.ends.QueueEnd.{QueueEnd}
use Rattle.claim_queue.specs.Handles as queues
use Rattle.claim_queue.specs.Lines.{lines_put, lines_taken}
use Rattle.quajects.specs.Settled.{runs_of, shuts_of}
use Rattle.table_theory.specs.Interleaving.{Ascending}

-- a tty's device: the bytes that it popped, and how many of them the raw queue refused
pub record Device : Type 0 where
  pub popped : List ℕ
  pub refused : ℕ

-- the items are these bytes, in their order, without as many of them as were refused
abbrev pub AreWithout : List ℕ → ℕ → List ℕ → Type 0
AreWithout [] refused items = (items ≡ []) × (refused ≡ 0)
AreWithout (b ∷ bytes) refused items =
    ((rest : List ℕ) × (items ≡ b ∷ rest) × AreWithout bytes refused rest)
    ⊎ ((fewer : ℕ) × (refused ≡ fewer + 1) × AreWithout bytes fewer items)

-- A device popped the bytes typed, and put all except the refused ones at its end of the raw queue, in order. The
-- device took nothing from the raw queue, and did not shut it
pub record DeviceEnded (p : PlannedTty) (raw : QueueEnd 64) (d : Device) : Type 0 where
  pub popped : d.popped ≡ p.typed
  pub put : AreWithout d.popped d.refused (concat (lines_put (queues.view_of raw)))
  pub ascends : Ascending (runs_of (queues.view_of raw))
  pub took_none : lines_taken (queues.view_of raw) ≡ []
  pub shut_none : shuts_of (queues.view_of raw) ≡ 0
