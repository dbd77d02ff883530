-- Answers of serving: all entries that the call added, how their numbers compare, and the notes that were run.
use Rattle.std.specs.Prelude.{◌≡◌, ◌≢◌, ℕ, zero, suc, ◌+◌, ◌<◌, Bool, true, false, List, [], ◌∷◌, ◌++◌}
use Rattle.std.specs.Prelude.{length, Option, Some, None}
use Rattle.std.specs.List.{AllByRecursion, flat_map}
use Rattle.atomic_table.specs.Table.{Me}
use Rattle.table_theory.specs.declared.queues.Batch.{Batch}
use Rattle.table_theory.specs.declared.views.AbsState.{AbsState}
use Rattle.table_theory.specs.Ledgers.{Step, load, change, Performed}
use Rattle.proc_chain.specs.declared.rule.ChainOps.{ChainOps}
use Rattle.proc_chain.specs.declared.rule.GatedQueue.{GatedQueue}
use Rattle.proc_chain.specs.declared.layout.TheConstants.{IDLE, RUNNING, MORE, NOTES}
use Rattle.proc_chain.specs.declared.serve.TheConstants.{MOST_RUN}
use Rattle.proc_chain.specs.declared.held.ServedKept.{ServedKept}
use Rattle.proc_chain.specs.declared.held.ServedKept.TheVariants as kept
use Rattle.proc_chain.specs.declared.running.Turn.{Turn}
use Rattle.proc_chain.specs.declared.serve.Served.{Served}
use Rattle.proc_chain.specs.declared.serve.Served.TheVariants.{Done, More}
use Rattle.proc_chain.specs.Layout.{tail_word, gate_word, place_word, raised_word, mark_of}
use Rattle.proc_chain.specs.Changes.{with_taken, with_gate, taking}
use Rattle.proc_chain.specs.Own.{View}
use Rattle.proc_chain.specs.Turns.{HasServed}

-- One use of the limit. Either a note was run: the tail was loaded, the note at its place was found raised, and a store
-- of the tail took the note. Or a leave failed: the tail was loaded, the note at its place was not raised, the
-- compare-and-swap found the gate More, and a round was begun
pub data Use : Type 0 where
  took : (note tail : ℕ) → AbsState GatedQueue → AbsState GatedQueue → AbsState GatedQueue → Use
  failed : (tail word gate : ℕ) → AbsState GatedQueue → AbsState GatedQueue → AbsState GatedQueue → AbsState GatedQueue
      → Use

-- the entries of a use
abbrev pub entries_of : Use → List (Step GatedQueue)
entries_of (took note tail m n o) = load tail_word tail m ∷ load (place_word tail) (raised_word tail note) n
    ∷ change tail_word tail o (with_taken o.object) ∷ []
entries_of (failed tail word gate m n o p) = load tail_word tail m ∷ load (place_word tail) word n
    ∷ load gate_word MORE o ∷ change gate_word gate p (with_gate p.object RUNNING) ∷ []

-- how the numbers of a use compare
abbrev pub IsUse : Use → Type 0
IsUse (took note tail m n o) = note < NOTES
IsUse (failed tail word gate m n o p) = mark_of word ≢ tail + 1

-- the notes that these uses ran, in order (`takings` has their takings)
abbrev pub notes_run : List Use → List ℕ
notes_run [] = []
notes_run (took note tail m n o ∷ uses) = note ∷ notes_run uses
notes_run (failed tail word gate m n o p ∷ uses) = notes_run uses

abbrev pub takings : List Use → List Batch
takings [] = []
takings (took note tail m n o ∷ uses) = taking o.object.queue ∷ takings uses
takings (failed tail word gate m n o p ∷ uses) = takings uses

-- a serving: a round was begun, from this gate, and these are the uses of the limit after that
pub record Serving : Type 0 where
  pub gate : ℕ
  pub begun : AbsState GatedQueue
  pub uses : List Use

-- the entries of a serving
abbrev pub serving : Serving → List (Step GatedQueue)
serving s = change gate_word s.gate s.begun (with_gate s.begun.object RUNNING) ∷ flat_map entries_of s.uses

-- how the end left: the tail was loaded, its place was not raised, and the compare-and-swap found the gate Running
pub record Leaving : Type 0 where
  pub tail : ℕ
  pub word : ℕ
  pub low : mark_of word ≢ tail + 1
  pub at_tail : AbsState GatedQueue
  pub at_place : AbsState GatedQueue
  pub at_gate : AbsState GatedQueue

-- the entries of leaving, if the end left
abbrev pub leaving : Option Leaving → List (Step GatedQueue)
leaving None = []
leaving (Some l) = load tail_word l.tail l.at_tail ∷ load (place_word l.tail) l.word l.at_place
    ∷ change gate_word RUNNING l.at_gate (with_gate l.at_gate.object IDLE) ∷ []

-- whether the end still has the turn: it did not leave
abbrev pub goes_on : Option Leaving → Bool
goes_on None = true
goes_on (Some l) = false

-- all uses of the limit in these servings
abbrev pub all_uses : List Serving → List Use
all_uses servings = flat_map (λ s. s.uses) servings

-- the end's record after these uses, and after it left, if it left: else it still has the turn
abbrev pub after_all : ChainOps → List Use → Option Leaving → ChainOps
after_all d uses left = record d {
  takes = d.takes ++ takings uses;
  runner = goes_on left;
  taken = d.taken + length (notes_run uses);
  saw = false;
}

-- These servings were made, one after the other, and then the end left, if it left. `ran` notes were run
pub record HasRun (v : View) (servings : List Serving) (left : Option Leaving) (ran : ℕ) (w : View) : Type 0 where
  pub fit : AllByRecursion IsUse (all_uses servings)
  pub number : length (notes_run (all_uses servings)) ≡ ran
  pub made : Performed v (flat_map serving servings ++ leaving left)
      (after_all v.own (all_uses servings) left) w
  pub served : HasServed v (notes_run (all_uses servings)) w

-- Done: less than the limit was used, and the end left. More: the whole limit was used; if the limit is 0, no step was
-- made
abbrev pub ServedNow : {Q : Type 0} → Me Q View → ℕ → Served → Me Q View → Type 0
ServedNow me limit (Done ran) me' = (s : Serving) × (l : Leaving) × (length s.uses < limit)
    × HasRun me.0 (s ∷ []) (Some l) ran me'.0
ServedNow me zero (More turn ran) me' = (ran ≡ 0) × (me' ≡ me)
ServedNow me (suc n) (More turn ran) me' = (s : Serving) × (length s.uses ≡ suc n)
    × HasRun me.0 (s ∷ []) None ran me'.0

-- the answer of `serve_kept` means what the answer of `serve` with the same name means (`ServedNow`)
abbrev pub KeptNow : {Q : Type 0} → Me Q View → ℕ → ServedKept → Me Q View → Type 0
KeptNow me limit (kept.Done ran) me' = ServedNow me limit (Done ran) me'
KeptNow me limit (kept.More ran) me' = (turn : Turn) × ServedNow me limit (More turn ran) me'

-- whether the end still has the turn after `serve_kept`
abbrev pub goes_on_after : ServedKept → Bool
goes_on_after (kept.Done ran) = false
goes_on_after (kept.More ran) = true

-- whether the end still has the turn after `serve`
abbrev pub is_more : Served → Bool
is_more (Done ran) = false
is_more (More turn ran) = true

-- servings used up the greatest limit, one after the other, and in a last serving the end left
abbrev pub AllServed : View → ℕ → View → Type 0
AllServed v ran w = (used_up : List Serving) × (last : Serving) × (l : Leaving)
    × AllByRecursion (λ s. length s.uses ≡ MOST_RUN) used_up × (length last.uses < MOST_RUN)
    × HasRun v (used_up ++ last ∷ []) (Some l) ran w
