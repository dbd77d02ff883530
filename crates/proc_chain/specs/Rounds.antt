-- Reports of the parts of a serving.
use Rattle.std.specs.Prelude.{◌≡◌, ◌≢◌, ℕ, ◌+◌, ◌<◌, Bool, true, false, List, [], ◌∷◌, ◌++◌, length, Some, None}
use Rattle.std.specs.List.{AllByRecursion}
use Rattle.table_theory.specs.declared.views.AbsState.{AbsState}
use Rattle.table_theory.specs.Ledgers.{Step, load, change, Performed}
use Rattle.proc_chain.specs.declared.rule.ChainOps.{ChainOps}
use Rattle.proc_chain.specs.declared.rule.GatedQueue.{GatedQueue}
use Rattle.proc_chain.specs.declared.layout.TheConstants.{IDLE, RUNNING, MORE}
use Rattle.proc_chain.specs.Layout.{tail_word, gate_word, place_word, mark_of}
use Rattle.table_theory.specs.Positioned.{stage_at}
use Rattle.proc_chain.specs.Changes.{with_gate}
use Rattle.proc_chain.specs.Own.{View, queue_of}
use Rattle.proc_chain.specs.Turns.{HasServed}
use Rattle.proc_chain.specs.Servings.{Use, took, entries_of, IsUse, notes_run, takings, Serving, Leaving, HasRun}

-- the runner's record after these uses; `runner` is whether it then has the turn, `saw` whether it saw no note raised
abbrev pub used : ChainOps → List Use → Bool → Bool → ChainOps
used d uses runner saw = record d {
  takes = d.takes ++ takings uses;
  runner = runner;
  taken = d.taken + length (notes_run uses);
  saw = saw;
}

-- the runner's steps added these entries, which are these uses of the limit, and the runner took the notes of these
-- uses
pub record Ran (v : View) (entries : List (Step GatedQueue)) (uses : List Use) (runner saw : Bool) (w : View)
    : Type 0 where
  pub fit : AllByRecursion IsUse uses
  pub made : Performed v entries (used v.own uses runner saw) w
  pub served : HasServed v (notes_run uses) w

-- the tail was loaded, the note at its place was found raised, and the note was taken
abbrev pub RanNote : View → View → Type 0
RanNote v w = (note tail : ℕ) × (m n o : AbsState GatedQueue)
    × Ran v (entries_of (took note tail m n o)) (took note tail m n o ∷ []) true false w

-- the tail was loaded, and the note at its place was not raised; no note more was taken after that
abbrev pub FoundNone : View → View → Type 0
FoundNone v w = (tail word : ℕ) × (m n : AbsState GatedQueue) × (mark_of word ≢ tail + 1)
    × Ran v (load tail_word tail m ∷ load (place_word tail) word n ∷ []) [] true true w
    × (stage_at n.object.queue n.object.queue.taken < 2) × (n.object.queue.taken ≡ (queue_of w).taken)

-- the end left: the compare-and-swap found the gate Running, and no note more was taken before it
abbrev pub LeftNow : View → View → Type 0
LeftNow v w = (m : AbsState GatedQueue)
    × Ran v (change gate_word RUNNING m (with_gate m.object IDLE) ∷ []) [] false false w
    × (m.object.queue.taken ≡ (queue_of v).taken) × (m.object.gate ≡ RUNNING) × (w.seen.object.gate ≡ IDLE)

-- the end did not leave: the compare-and-swap found the gate More, no note more was taken before it, and a round was
-- begun
abbrev pub RoundNow : View → View → Type 0
RoundNow v w = (gate : ℕ) × (m n : AbsState GatedQueue)
    × Ran v (load gate_word MORE m ∷ change gate_word gate n (with_gate n.object RUNNING) ∷ []) [] true false w
    × (m.object.queue.taken ≡ (queue_of v).taken) × (m.object.gate ≡ MORE)

-- the serving left before its limit was used up
abbrev pub IsDone : View → ℕ → ℕ → View → Type 0
IsDone v limit ran w = (s : Serving) × (l : Leaving) × (length s.uses < limit) × HasRun v (s ∷ []) (Some l) ran w

-- the serving used its limit up
abbrev pub IsUsedUp : View → ℕ → ℕ → View → Type 0
IsUsedUp v limit ran w = (s : Serving) × (length s.uses ≡ limit) × HasRun v (s ∷ []) None ran w
