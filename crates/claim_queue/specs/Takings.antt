-- Answers of takings: all entries that a taking added, and how their numbers compare.
use Rattle.std.specs.Prelude.{◌≡◌, ◌≢◌, ◌⊎◌, ◌+◌, ◌-◌, ◌<◌, ◌≤◌, ℕ, List, [], ◌∷◌, ◌++◌, length, map, slice_index_or}
use mathlib.Core.Option.{some}
use lib.ListN.{get_elem?}
use Rattle.table_theory.specs.declared.queues.Batch.{Batch}
use Rattle.table_theory.specs.declared.queues.Positions.{Positions}
use Rattle.table_theory.specs.declared.views.AbsState.{AbsState}
use Rattle.table_theory.specs.Batches.{line_of}
use Rattle.table_theory.specs.Ledgers.{Step, load, change, Performed}
use Rattle.table_theory.specs.Positioned.{blank, with_take}
use Rattle.claim_queue.specs.declared.layout.TheConstants.{SHUT}
use Rattle.claim_queue.specs.declared.take.TakeRefusal.{TakeRefusal}
use Rattle.claim_queue.specs.declared.take.TakeRefusal.TheVariants.{Empty, Lost, Closed}
use Rattle.claim_queue.specs.Layout.{head_word, tail_word, data_word, flag_word}
use Rattle.claim_queue.specs.Own.{View, taking}

-- items that were found raised: each item, with the moments of its flag and of its data word
abbrev pub Scan : Type 0
Scan = List (ℕ × AbsState Positions × AbsState Positions)

-- the items that were found
abbrev pub items_of : Scan → List ℕ
items_of scan = map (λ found. found.0) scan

-- the entries of a scan from this position on: for each item, its flag was loaded, and then its data word
abbrev pub scanned : ℕ → ℕ → Scan → List (Step Positions)
scanned room position [] = []
scanned room position (found ∷ more) = load (flag_word room position) (position + 1) found.1
    ∷ load (data_word room position) found.0 found.2 ∷ scanned room (position + 1) more

-- no item is 10, the end of a line
abbrev pub NoEnd : List ℕ → Type 0
NoEnd xs = (i : ℕ) → i < length xs → slice_index_or xs i 0 ≢ 10

-- a line: items up to and with the first 10, or `room` items without a 10 before the last one
abbrev pub IsLine : ℕ → List ℕ → Type 0
IsLine room xs = ((i : ℕ) → i + 1 < length xs → slice_index_or xs i 0 ≢ 10) × (0 < length xs)
    × ((slice_index_or xs (length xs - 1) 0 ≡ 10) ⊎ (length xs ≡ room))

-- the beginning of a line: no 10, and fewer than `room` items
abbrev pub IsBegun : ℕ → List ℕ → Type 0
IsBegun room xs = NoEnd xs × (length xs < room)

-- one item
abbrev pub IsOne : List ℕ → Type 0
IsOne xs = length xs ≡ 1

-- no item
abbrev pub IsNone : List ℕ → Type 0
IsNone xs = xs ≡ []

-- The tail was loaded, the items were found from it on, and one compare-and-swap of that tail took them. They were the
-- first items left
abbrev pub TookItems : ℕ → View → List ℕ → View → Type 0
TookItems room v items w = (tail : ℕ) × (m o : AbsState Positions) × (scan : Scan)
    × (items_of scan ≡ items) × (line_of (taking o.object (length items)) ≡ items)
    × Performed v (load tail_word tail m ∷ scanned room tail scan
    ++ change tail_word tail o (with_take o.object (length items)) ∷ [])
    (record v.own { takes = v.own.takes ++ taking o.object (length items) ∷ [] }) w

-- a taking that found a place not raised: the tail, the items from it on, and the flag of the next place
pub record Stop : Type 0 where
  pub tail : ℕ
  pub at_tail : AbsState Positions
  pub scan : Scan
  pub flag : ℕ
  pub at_flag : AbsState Positions

-- the position of the place that was not raised, directly after the items
abbrev pub stop_position : Stop → ℕ
stop_position s = s.tail + length s.scan

-- the entries of the taking, up to the load of the flag that was not raised
abbrev pub stopping : ℕ → Stop → List (Step Positions)
stopping room s = load tail_word s.tail s.at_tail ∷ scanned room s.tail s.scan
    ++ load (flag_word room (stop_position s)) s.flag s.at_flag ∷ []

-- too few items were found, and the next place was not raised
abbrev pub IsStop : (List ℕ → Type 0) → Stop → Type 0
IsStop Few s = Few (items_of s.scan) × (s.flag ≢ stop_position s + 1)

-- one of these runs has a raised place at this position
pub record HasRaised (runs : List Batch) (position : ℕ) : Type 0 where
  pub number : ℕ
  pub run : Batch
  pub has : get_elem? runs number ≡ some run
  pub index : ℕ
  pub below : index < length run.places
  pub raised : 2 ≤ (slice_index_or run.places index blank).stage
  pub is : run.start + index ≡ position

-- There were too few items. The queue was not shut with that tail as its head, and the tail was found unchanged. The
-- end itself has not raised the place
abbrev pub WasEmpty : (List ℕ → Type 0) → ℕ → View → ℕ → View → Type 0
WasEmpty Few room v at w = (s : Stop) × (head : ℕ) × (m n : AbsState Positions) × IsStop Few s
    × (at ≡ stop_position s) × (head ≢ SHUT + s.tail) × (HasRaised v.own.runs at → ⊥)
    × Performed v (stopping room s ++ load head_word head m ∷ load tail_word s.tail n ∷ []) v.own w

-- there were too few items, the queue was not shut with that tail as its head, and then a later tail was found
abbrev pub PassedBefore : (List ℕ → Type 0) → ℕ → View → ℕ → View → Type 0
PassedBefore Few room v now w = (s : Stop) × (head : ℕ) × (m n : AbsState Positions) × IsStop Few s
    × (head ≢ SHUT + s.tail) × (s.tail < now)
    × Performed v (stopping room s ++ load head_word head m ∷ load tail_word now n ∷ []) v.own w

-- there were enough items, but the compare-and-swap found another tail, past the one loaded
abbrev pub PassedMeanwhile : (List ℕ → Type 0) → ℕ → View → ℕ → View → Type 0
PassedMeanwhile Enough room v now w = (tail : ℕ) × (m o : AbsState Positions) × (scan : Scan)
    × Enough (items_of scan) × (tail < now)
    × Performed v (load tail_word tail m ∷ scanned room tail scan ++ load tail_word now o ∷ []) v.own w

-- there were too few items, and the head word was the shut mark and that tail: all that was put was taken
abbrev pub WasDone : (List ℕ → Type 0) → ℕ → View → View → Type 0
WasDone Few room v w = (s : Stop) × (m : AbsState Positions) × IsStop Few s
    × Performed v (stopping room s ++ load head_word (SHUT + s.tail) m ∷ []) v.own w

-- the refusal of a taking: items with the property Few are too few for the taking, and items with Enough are enough
abbrev pub RefusedTake : (List ℕ → Type 0) → (List ℕ → Type 0) → ℕ → View → TakeRefusal → View → Type 0
RefusedTake Few Enough room v (Empty at) w = WasEmpty Few room v at w
RefusedTake Few Enough room v (Lost tail) w = PassedBefore Few room v tail w ⊎ PassedMeanwhile Enough room v tail w
RefusedTake Few Enough room v Closed w = WasDone Few room v w

-- Holds is true for takings of one item and for takings of a line, each with its Few and its Enough
abbrev pub OfBoth : ℕ → ((List ℕ → Type 0) → (List ℕ → Type 0) → Type 0) → Type 0
OfBoth room Holds = Holds IsNone IsOne × Holds (IsBegun room) (IsLine room)

-- A refused taking of one item called its pause once if it came to its compare-and-swap, and else left the pause as it
-- was. For Lost the entries show which: tail, flag, data and tail with the compare-and-swap, or tail, flag, head and
-- tail without it
abbrev pub PausedTake : {P : Type 0} → (P → P → Type 0) → ℕ → View → TakeRefusal → View → P → P → Type 0
PausedTake Called room v (Lost tail) w old new =
    (PassedBefore IsNone room v tail w × (new ≡ old)) ⊎ (PassedMeanwhile IsOne room v tail w × Called old new)
PausedTake Called room v refusal w old new = new ≡ old
