-- The state of a hand, and the parts of it that the hand keeps.
use Rattle.std.specs.Prelude.{◌≡◌, ◌<◌, ◌||◌, ℕ, true, List, slice_index_or, Option, Some, None}
use Rattle.thread_table.specs.declared.layout.TheConstants.{ELEMENTS}
use Rattle.thread_table.specs.Own.{View}
use Rattle.thread_table.specs.Answers.{is_in}
use Rattle.thread_table.specs.Keeping.{Keeps}
use Rattle.thread_table.specs.Rules.{MayStep, done_at, has, serves, running}
use Rattle.turn_dispatch.specs.Tallies.{Tally, AddsToTally, is_delivered}

-- the hand serves the processor, and no element is on it
abbrev pub IsFree : ℕ → View → Type 0
IsFree p v = (serves v p ≡ true) × (running v p ≡ None)

-- the hand serves the processor, and the element is on it
abbrev pub IsOn : ℕ → ℕ → View → Type 0
IsOn p element v = (serves v p ≡ true) × (running v p ≡ Some element)

-- the hand holds the same elements as before
abbrev pub HoldsSame : View → View → Type 0
HoldsSame v w = (e : ℕ) → has w e ≡ has v e

-- between the two views no step was counted of an element that the hand has in both
abbrev pub Steady : View → View → Type 0
Steady v w = (e : ℕ) → e < ELEMENTS → MayStep v e → MayStep w e → done_at w.seen.object e ≡ done_at v.seen.object e

-- The hand's processors and its share are unchanged, and these elements are on the processors
pub record KeepsBut (on : List (Option ℕ)) (v w : View) : Type 0 where
  pub first : w.own.first ≡ v.own.first
  pub serves : w.own.serves ≡ v.own.serves
  pub on_are : w.own.on ≡ on
  pub share : w.member.share ≡ v.member.share

-- The hand has all that it had, and no step was counted of an element that it has before and after. Its events add this
-- tally
pub record OnlyAdds (more : Tally) (v w : View) : Type 0 where
  pub keeps : Keeps v w
  pub holds : HoldsSame v w
  pub adds : AddsToTally more v w
  pub steady : Steady v w

-- the masks of the elements have the signals that they had, and these deliveries
abbrev pub Shows : List (ℕ × List ℕ) → List ℕ → List ℕ → Type 0
Shows deliveries old new = (element signal : ℕ) → element < ELEMENTS → signal < 16
    → is_in (slice_index_or new element 0) signal
    ≡ (is_in (slice_index_or old element 0) signal || is_delivered deliveries element signal)
