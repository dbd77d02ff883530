-- Walks along marks: each mark is loaded at the position to which the previous mark leads. And the look at the free
-- position, which such a walk moves on.
use Rattle.std.specs.Prelude.{◌≡◌, ℕ, zero, suc, ◌+◌, ◌/◌, ◌%◌, ◌<◌, ◌≤◌, MatchBool, Bool, false, List, [], ◌∷◌, ◌++◌}
use Rattle.table_theory.specs.declared.views.AbsState.{AbsState}
use Rattle.table_theory.specs.Ledgers.{Step, load, change, Performed}
use Rattle.batch_queue.specs.declared.rule.BatchState.{BatchState}
use Rattle.batch_queue.specs.Layout.{free_word, mark_word}
use Rattle.batch_queue.specs.Moments.{AtSomeMoment, IsGivenBackTo}
use Rattle.batch_queue.specs.Object.{with_freed, Grows, Lawful, NoneFits}
use Rattle.batch_queue.specs.Own.{View}
use Rattle.batch_queue.specs.Steps.{HasFound, HasBack}

-- the mark at this position leads on to its half, which is a further position, and it has this parity: 0 for marks of
-- published batches, 1 for marks of takings that are given back
abbrev pub LeadsOn : ℕ → ℕ → ℕ → Type 0
LeadsOn parity position mark = (mark % 2 ≡ parity) × (position < mark / 2)

-- the marks that were followed, each with its moment
abbrev pub Walk : Type 0
Walk = List (ℕ × AbsState BatchState)

-- the position to which a walk leads from this one
abbrev pub end_of : ℕ → Walk → ℕ
end_of position [] = position
end_of position (found ∷ walk) = end_of (found.0 / 2) walk

-- the loads of a walk from this position on
abbrev pub walked : ℕ → ℕ → Walk → List (Step BatchState)
walked room position [] = []
walked room position (found ∷ walk) = load (mark_word room position) found.0 found.1 ∷ walked room (found.0 / 2) walk

-- each mark of the walk leads on, and none of them further than to `most`
abbrev pub IsWalk : ℕ → ℕ → ℕ → Walk → Type 0
IsWalk parity most position [] = Unit {0}
IsWalk parity most position (found ∷ walk) = LeadsOn parity position found.0 × (found.0 / 2 ≤ most)
    × IsWalk parity most (found.0 / 2) walk

-- The walk went no further than this position: it is the limit `most`, or the mark that was found there does not lead
-- on or leads past `most`. `loads` has the load of that mark
pub data IsStop (parity most room position : ℕ) (loads : List (Step BatchState)) : Type 0 where
  at_most : position ≡ most → loads ≡ [] → IsStop parity most room position loads
  at_mark : position < most → (mark : ℕ) (m : AbsState BatchState)
      → (LeadsOn parity position mark → mark / 2 ≤ most → ⊥)
      → loads ≡ load (mark_word room position) mark m ∷ [] → IsStop parity most room position loads

-- from the position `from` marks were followed as far as they lead, to the position `to`, by these loads
pub record FollowedBy (parity most room from to : ℕ) (loads : List (Step BatchState)) : Type 0 where
  pub walk : Walk
  pub leads : IsWalk parity most from walk
  pub end : to ≡ end_of from walk
  pub stop : List (Step BatchState)
  pub stops : IsStop parity most room to stop
  pub loads_are : loads ≡ walked room from walk ++ stop

-- the end followed marks from the position `from` to the position `to`, and did nothing else
pub record Followed (parity most room from to : ℕ) (v w : View) : Type 0 where
  pub loads : List (Step BatchState)
  pub by : FollowedBy parity most room from to loads
  pub made : Performed v loads v.own w

-- a walk begins no further than at the tail (published), or at the free position (given back)
abbrev pub Starts : ℕ → View → ℕ → Type 0
Starts zero v base = base ≤ v.seen.object.taken
Starts (suc parity) v base = base ≤ v.seen.object.freed

-- by what an end has found, all positions from the first to the second one are published, or all are given back
abbrev pub Passed : ℕ → View → ℕ → ℕ → Type 0
Passed zero v from to = HasFound v from to
Passed (suc parity) v from to = HasBack v from to

-- The last load of a walk over places that are given back, from `base` to this position. If the free position was not
-- past `base` then, the places before this position were given back, and the place of this position was not
abbrev pub StoppedAt : ℕ → ℕ → View → View → Type 0
StoppedAt base position v w = AtSomeMoment v w (λ o. Grows v.seen.object o × Grows o w.seen.object
    × (o.freed ≤ base → IsGivenBackTo o position))

-- A moment of a walk along published batches, from `base` to this position. If the tail was not past `base` then, no
-- batch could be taken from this position on within the limit `most`
abbrev pub StoppedUp : ℕ → ℕ → ℕ → View → View → Type 0
StoppedUp base position most v w = AtSomeMoment v w (λ o. Grows v.seen.object o × Grows o w.seen.object × Lawful o
    × (o.room ≡ w.first.room) × (o.taken ≤ base → NoneFits o position most))

-- The last step of moving on the free position `first`, after the walk led to `to`: a compare-and-swap moved it on; or
-- nothing was given back, and it was loaded again; or another end had moved it to `found`
pub data IsHelp (first to found : ℕ) (last : Step BatchState) : Type 0 where
  exchanged : first < to → found ≡ first → (m : AbsState BatchState)
      → last ≡ change free_word first m (with_freed m.object to) → IsHelp first to found last
  still : first ≡ to → found ≡ first → (m : AbsState BatchState)
      → last ≡ load free_word first m → IsHelp first to found last
  overtaken : first < found → (m : AbsState BatchState) → last ≡ load free_word found m → IsHelp first to found last

-- the end made the last step of moving on the free position, and did nothing else
pub record Helped (first to found : ℕ) (v w : View) : Type 0 where
  pub last : Step BatchState
  pub by : IsHelp first to found last
  pub made : Performed v (last ∷ []) v.own w

-- Marks of places that are given back were followed from the free position `first`, and the free position was moved on.
-- It is then `free`, at least; `moved` is true if another end moved it meanwhile
pub record HelpBy (room first free : ℕ) (moved : Bool) (entries : List (Step BatchState)) : Type 0 where
  pub to : ℕ
  pub found : ℕ
  pub loads : List (Step BatchState)
  pub followed : FollowedBy 1 (first + room) room first to loads
  pub last : Step BatchState
  pub by : IsHelp first to found last
  pub is : MatchBool moved ((free ≡ found) × (first < found)) ((free ≡ to) × (found ≡ first))
  pub entries_are : entries ≡ loads ++ last ∷ []

-- the end followed marks and moved the free position on (`HelpBy`), and did nothing else
pub record HelpedBy (room first free : ℕ) (moved : Bool) (v w : View) : Type 0 where
  pub entries : List (Step BatchState)
  pub by : HelpBy room first free moved entries
  pub made : Performed v entries v.own w

-- The free position was looked up for a claim up to `new`, and was `free` at least: at once, or after it was moved on
pub data FreeBy (room new free : ℕ) (moved : Bool) (entries : List (Step BatchState)) : Type 0 where
  at_once : new ≤ free + room → moved ≡ false → (m : AbsState BatchState)
      → entries ≡ load free_word free m ∷ [] → FreeBy room new free moved entries
  by_help : (first : ℕ) (m : AbsState BatchState) (help : List (Step BatchState)) → first + room < new
      → HelpBy room first free moved help → entries ≡ load free_word first m ∷ help → FreeBy room new free moved entries

-- the end looked up the free position for a claim up to `new`, and did nothing else
pub record LookedFree (room new free : ℕ) (moved : Bool) (v w : View) : Type 0 where
  pub entries : List (Step BatchState)
  pub by : FreeBy room new free moved entries
  pub made : Performed v entries v.own w
