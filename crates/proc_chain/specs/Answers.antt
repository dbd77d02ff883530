-- Answers of chaining a note: all entries that the call added, and how their numbers compare.
use Rattle.std.specs.Prelude.{ℕ, ◌+◌, ◌<◌, ◌≤◌, Bool, true, false, [], ◌∷◌, ◌++◌}
use Rattle.table_theory.specs.declared.positions.TheConstants.{POSITIONS}
use Rattle.table_theory.specs.declared.views.AbsState.{AbsState}
use Rattle.table_theory.specs.Ledgers.{load, Performed}
use Rattle.proc_chain.specs.declared.rule.ChainOps.{ChainOps}
use Rattle.proc_chain.specs.declared.rule.GatedQueue.{GatedQueue}
use Rattle.proc_chain.specs.declared.layout.TheConstants.{PLACES}
use Rattle.proc_chain.specs.declared.chaining.ChainRefusal.{ChainRefusal}
use Rattle.proc_chain.specs.declared.chaining.ChainRefusal.TheVariants.{Spent, Full, Lost}
use Rattle.proc_chain.specs.declared.chaining.Chained.{Chained}
use Rattle.proc_chain.specs.declared.chaining.Chained.TheVariants.{Run, Left}
use Rattle.proc_chain.specs.Layout.{head_word, tail_word}
use Rattle.proc_chain.specs.Links.{Link, linked, IsLink, FoundIdle}
use Rattle.proc_chain.specs.Own.{View}

-- The entries of a refused note. Spent: the head was loaded, and no position is left. Full: the head was loaded, then
-- the tail, with no room. Lost: there was room, but the compare-and-swap found another head, past the one loaded
abbrev pub NotChained : View → ChainRefusal → View → Type 0
NotChained v Spent w = (head : ℕ) × (m : AbsState GatedQueue) × (POSITIONS ≤ head + 1)
    × Performed v (load head_word head m ∷ []) v.own w
NotChained v (Full head tail) w = (m n : AbsState GatedQueue) × (head + 1 < POSITIONS) × (tail + PLACES ≤ head)
    × Performed v (load head_word head m ∷ load tail_word tail n ∷ []) v.own w
NotChained v (Lost head) w = (first tail : ℕ) × (m n o : AbsState GatedQueue)
    × (first + 1 < POSITIONS) × (first < tail + PLACES) × (first < head)
    × Performed v (load head_word first m ∷ load tail_word tail n ∷ load head_word head o ∷ []) v.own w

-- the end's record with one more run, of this note, raised at this position, and with no notify owed
abbrev pub with_run : ChainOps → ℕ → ℕ → ChainOps
with_run d position note = record d {
  runs = d.runs ++ record { start = position; places = record { item = note; stage = 2 } ∷ [] } ∷ [];
  owes = false;
}

-- The note was chained by this link: there was room, a place was claimed for the note, the note was raised there, and
-- the gate was set to More
abbrev pub ChainedBy : View → ℕ → Link → (ChainOps → ChainOps) → View → Type 0
ChainedBy v note l then w = IsLink v.own.runs note l × Performed v (linked note l) (then (with_run v.own l.head note)) w

-- the end's record with the turn: `taken` notes were taken, and the end has not looked at a place yet
abbrev pub with_turn : ℕ → ChainOps → ChainOps
with_turn taken d = record d { runner = true; taken = taken; saw = false }

-- the note was chained; the answer is Run exactly if the gate was found Idle
abbrev pub ChainedNow : View → ℕ → Chained → View → Type 0
ChainedNow v note (Run turn) w = (l : Link) × FoundIdle l
    × ChainedBy v note l (with_turn l.at_gate.object.queue.taken) w
ChainedNow v note Left w = (l : Link) × (FoundIdle l → ⊥) × ChainedBy v note l (λ did. did) w

-- whether the end got the Turn
abbrev pub is_run : Chained → Bool
is_run (Run turn) = true
is_run Left = false
