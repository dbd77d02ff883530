-- The sum of all events of a thread table, by what its closing reports of each element.
use Rattle.std.specs.Prelude.{◌≡◌, ◌≢◌, ◌==◌, ◌&&◌, ◌||◌, ◌<◌, ◌≤◌, ℕ, Bool, true, false, nat_lt, if◌then◌else◌}
use Rattle.std.specs.Prelude.{List, length, slice_index_or, count_by}
use Rattle.std.specs.List.{list_any}
use Rattle.thread_table.specs.declared.layout.TheConstants.{ELEMENTS, PROCESSORS, WAITS}
use Rattle.thread_table.specs.declared.places.Place.{Place}
use Rattle.thread_table.specs.declared.places.Place.TheVariants as places
use Rattle.thread_table.specs.Answers.{is_in}
use Rattle.turn_dispatch.specs.Tallies.{Tally, is_delivered}

-- both pairs are of the same two numbers
abbrev pub same_pair : ℕ × ℕ → ℕ × ℕ → Bool
same_pair a b = (a.0 == b.0) && (a.1 == b.1)

-- the pair is in the list exactly once if the test holds, and otherwise never
abbrev pub IsOnceWhere : Bool → ℕ × ℕ → List (ℕ × ℕ) → Type 0
IsOnceWhere test pair pairs = count_by (same_pair pair) pairs ≡ (if test then 1 else 0)

-- the place of an element
abbrev pub place_of : List Place → ℕ → Place
place_of stands element = slice_index_or stands element places.Held

-- the place is among the free elements
abbrev pub is_free : Place → Bool
is_free places.Free = true
is_free place = false

-- the element is reported to have done the step with this number
abbrev pub has_done : List ℕ → ℕ → ℕ → Bool
has_done pcs element number = nat_lt element ELEMENTS && nat_lt number (slice_index_or pcs element 0)

-- the element is one of the first `taken` elements, and is reported free, with exactly this number of steps done
abbrev pub is_back : ℕ → List Place → List ℕ → ℕ → ℕ → Bool
is_back taken stands pcs element number =
    nat_lt element taken && is_free (place_of stands element) && number == slice_index_or pcs element 0

-- Each step that is reported as done was counted once, and no other step. A signal was raised exactly if it was
-- delivered or is pending. The elements that are free at first are taken in the order of their numbers. If no more than
-- those were taken, a taken element that is reported free was retired once, with the steps reported. No other element
-- was then retired
pub record Settles (tally : Tally) (stands : List Place) (pcs pending : List ℕ) : Type 0 where
  pub steps : (element number : ℕ) → IsOnceWhere (has_done pcs element number) (element, number) tally.done
  pub signals : (element signal : ℕ) → element < ELEMENTS → signal < 16
      → list_any (same_pair (element, signal)) tally.signalled
      ≡ (is_delivered tally.delivered element signal || is_in (slice_index_or pending element 0) signal)
  pub retired : length tally.taken ≤ ELEMENTS → (element number : ℕ) → element < ELEMENTS
      → IsOnceWhere (is_back (length tally.taken) stands pcs element number) (element, number) tally.retired

-- the processor or the wait queue that the place names exists
abbrev pub IsNamed : Place → Type 0
IsNamed (places.Processor p) = p < PROCESSORS
IsNamed (places.Wait wait) = wait < WAITS
IsNamed place = Unit {0}

-- no element is on a processor
abbrev pub NoneOn : List Place → Type 0
NoneOn stands = (element p : ℕ) → element < ELEMENTS → place_of stands element ≢ places.Processor p
