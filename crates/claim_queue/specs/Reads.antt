-- The items that a taking has found so far, and the queue that its end sees.
use Rattle.std.specs.Prelude.{◌≡◌, ◌≢◌, ◌+◌, ◌-◌, ◌<◌, ◌≤◌, ℕ, List, [], ◌∷◌, ◌++◌, length, slice_index_or}
use Rattle.table_theory.specs.declared.queues.Positions.{Positions}
use Rattle.table_theory.specs.declared.views.AbsState.{AbsState}
use Rattle.table_theory.specs.Ledgers.{load, Performed}
use Rattle.table_theory.specs.Positioned.{stage_at, item_at, tail_of}
use Rattle.claim_queue.specs.declared.layout.TheConstants.{SHUT}
use Rattle.claim_queue.specs.declared.take.TakeRefusal.{TakeRefusal}
use Rattle.claim_queue.specs.declared.take.TakeRefusal.TheVariants.{Empty, Lost, Closed}
use Rattle.claim_queue.specs.Layout.{head_word, tail_word, flag_word}
use Rattle.claim_queue.specs.Own.{View}
use Rattle.claim_queue.specs.Takings.{Scan, items_of, scanned, HasRaised}

-- The places from the position `tail` on are raised, one for each of xs, and xs are their items unless the queue's tail
-- is past `tail`. That position is not before the first one, nor past the queue's tail
pub record HasFound (v : View) (tail : ℕ) (xs : List ℕ) : Type 0 where
  pub first : v.seen.object.first ≤ tail
  pub started : tail ≤ tail_of v.seen.object
  pub up : (i : ℕ) → i < length xs → 2 ≤ stage_at v.seen.object (tail - v.seen.object.first + i)
  pub items : (i : ℕ) → i < length xs → tail_of v.seen.object ≤ tail
      → slice_index_or xs i 0 ≡ item_at v.seen.object (tail - v.seen.object.first + i)

-- the entries of a taking so far: these items were found from `tail` on, one after the other
abbrev pub IsScanned : ℕ → View → ℕ → List ℕ → View → Type 0
IsScanned room v tail items w = (scan : Scan) × (items_of scan ≡ items) × Performed v (scanned room tail scan) v.own w

-- These items were found from `tail` on, and then the next flag was not raised. The end itself has not raised that
-- place, unless the queue's tail is past `tail`
abbrev pub IsStopped : ℕ → View → ℕ → List ℕ → View → Type 0
IsStopped room v tail items w = (scan : Scan) × (items_of scan ≡ items) × (flag : ℕ) × (m : AbsState Positions)
    × (flag ≢ tail + length scan + 1)
    × (tail_of w.seen.object ≤ tail → HasRaised w.own.runs (tail + length scan) → ⊥)
    × Performed v (scanned room tail scan ++ load (flag_word room (tail + length scan)) flag m ∷ []) v.own w

-- the refusal of a taking at this tail: by the head that was loaded then and, except for Closed, by the tail after it
abbrev pub IsRefusedAt : View → ℕ → ℕ → TakeRefusal → View → Type 0
IsRefusedAt v tail at (Empty position) w = (position ≡ at) × (tail_of v.seen.object ≤ tail) × (head : ℕ)
    × (m n : AbsState Positions) × (head ≢ SHUT + tail)
    × Performed v (load head_word head m ∷ load tail_word tail n ∷ []) v.own w
IsRefusedAt v tail at (Lost now) w = (head : ℕ) × (m n : AbsState Positions) × (head ≢ SHUT + tail) × (tail < now)
    × Performed v (load head_word head m ∷ load tail_word now n ∷ []) v.own w
IsRefusedAt v tail at Closed w = (m : AbsState Positions) × Performed v (load head_word (SHUT + tail) m ∷ []) v.own w
