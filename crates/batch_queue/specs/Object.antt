-- A queue by its positions: when it is lawful, and its events.
use Rattle.std.specs.Prelude.{◌≡◌, ◌⊎◌, ℕ, zero, suc, ◌+◌, ◌<◌, ◌≤◌, List, [], ◌∷◌, ◌++◌, length, replicate}
use Rattle.std.specs.Prelude.{◌-◌, ◌*◌, ◌%◌, slice_index_or, slice_set, map, take, drop, true, false}
use Rattle.std.specs.List.{concat, flat_map}
use mathlib.Core.Option.{some}
use lib.ListN.{get_elem?}
use Rattle.batch_queue.specs.declared.rule.BatchState.{BatchState}
use Rattle.batch_queue.specs.declared.rule.Shape.{Shape}

-- all items that were claimed, in the order of their claims
abbrev pub items_of : BatchState → List ℕ
items_of o = concat o.batches

-- the phase of a position: 0 from its claim on, 1 once it is published, 2 once it is taken, 3 once its place is given
-- back
abbrev pub phase_at : BatchState → ℕ → ℕ
phase_at o i = slice_index_or o.phases i 0

-- the mark of the place of a position
abbrev pub mark_of : BatchState → ℕ → ℕ
mark_of o p = slice_index_or o.marks (p % o.room) 0

-- a batch ends at this position, or the position is the first one
pub record IsEdge (batches : List (List ℕ)) (p : ℕ) : Type 0 where
  pub before : List (List ℕ)
  pub rest : List (List ℕ)
  pub all : before ++ rest ≡ batches
  pub at : length (concat before) ≡ p

-- a batch has the positions from p on and before e
pub record IsBatch (batches : List (List ℕ)) (p e : ℕ) : Type 0 where
  pub before : List (List ℕ)
  pub batch : List ℕ
  pub rest : List (List ℕ)
  pub all : before ++ batch ∷ rest ≡ batches
  pub at : length (concat before) ≡ p
  pub end : p + length batch ≡ e

-- an end parted a batch at this position
abbrev pub IsParted : BatchState → ℕ → Type 0
IsParted o p = (k : ℕ) × (get_elem? o.parted k ≡ some p)

-- a taking may end at this position: a batch ends there, or an end parted one there
abbrev pub IsStop : BatchState → ℕ → Type 0
IsStop o p = IsEdge o.batches p ⊎ IsParted o p

-- the positions from p on and before e are a batch, or the rest of a batch, and there is such a position
pub record IsRest (batches : List (List ℕ)) (p e : ℕ) : Type 0 where
  pub start : ℕ
  pub batch : IsBatch batches start e
  pub from : start ≤ p
  pub some_item : p < e

-- no batch can be taken from this position on: nothing is published there, or a batch that ends past the limit
abbrev pub NoneFits : BatchState → ℕ → ℕ → Type 0
NoneFits o p limit = (phase_at o p ≡ 0) ⊎ ((e : ℕ) × IsRest o.batches p e × (limit < e))

-- this position or one before it is not published
abbrev pub LacksUpTo : BatchState → ℕ → Type 0
LacksUpTo o to = (p : ℕ) × (p ≤ to) × (phase_at o p ≡ 0)

-- the position is published, and lies within a batch that ends at e, after its first position
abbrev pub IsWithin : BatchState → ℕ → ℕ → Type 0
IsWithin o p e = (rest : IsRest o.batches p e) × (rest.start < p) × (1 ≤ phase_at o p)

-- none of these positions is published, or all are
abbrev pub AllOrNone : BatchState → ℕ → ℕ → Type 0
AllOrNone o p e = ((i : ℕ) → p ≤ i → i < e → phase_at o i ≡ 0) ⊎ ((i : ℕ) → p ≤ i → i < e → 1 ≤ phase_at o i)

-- each batch is published whole or not at all
abbrev pub AreWhole : BatchState → Type 0
AreWhole o = (p e : ℕ) → IsBatch o.batches p e → AllOrNone o p e

-- each of these batches has an item
abbrev pub AreSolid : List (List ℕ) → Type 0
AreSolid batches = (p e : ℕ) → IsBatch batches p e → p < e

-- Each taking is of whole batches: the takings are the first batches in groups, in the order of claims
pub record AreGroups (batches takings : List (List ℕ)) : Type 0 where
  pub groups : List (List (List ℕ))
  pub left : List (List ℕ)
  pub all : flat_map (λ group. group) groups ++ left ≡ batches
  pub each : map concat groups ≡ takings

-- A lawful queue: from the beginning of the window on, no more positions are claimed than there are places. At the
-- tail, and at the end of each taking, a batch ends or was parted; if none was parted, each taking is of whole batches.
-- The takings are the first items. At the beginning of the window a taking ends
pub record Lawful (o : BatchState) : Type 0 where
  pub some_room : 0 < o.room
  pub long : length o.phases ≡ length (items_of o)
  pub mark_each : length o.marks ≡ o.room
  pub within : length (items_of o) ≤ o.freed + o.room
  pub before : (i : ℕ) → i < o.taken → 2 ≤ phase_at o i
  pub after : (i : ℕ) → o.taken ≤ i → phase_at o i ≤ 1
  pub taken_within : (i : ℕ) → i < o.freed → 3 ≤ phase_at o i
  pub whole : AreWhole o
  pub stop : IsStop o o.taken
  pub solid : AreSolid o.batches
  pub solid_takings : AreSolid o.takings
  pub stops : (p e : ℕ) → IsBatch o.takings p e → IsStop o e
  pub groups : o.parted ≡ [] → AreGroups o.batches o.takings
  pub parts : (p : ℕ) → IsParted o p → (e : ℕ) × IsWithin o p e
  pub taken_is : length (concat o.takings) ≡ o.taken
  pub items : concat o.takings ≡ take o.taken (items_of o)
  pub freed_edge : IsEdge o.takings o.freed

-- the entries from a on and before b are y
abbrev pub set_range : List ℕ → ℕ → ℕ → ℕ → List ℕ
set_range [] a b y = []
set_range (x ∷ xs) a zero y = x ∷ xs
set_range (x ∷ xs) zero (suc b) y = y ∷ set_range xs zero b y
set_range (x ∷ xs) (suc a) (suc b) y = x ∷ set_range xs a b y

-- one batch more was claimed
abbrev pub with_batch : BatchState → List ℕ → BatchState
with_batch o claim = record o {
  batches = o.batches ++ claim ∷ [];
  phases = o.phases ++ replicate (length claim) 0;
}

-- the positions from a on and before b have this phase
abbrev pub with_phase : BatchState → ℕ → ℕ → ℕ → BatchState
with_phase o a b y = record o { phases = set_range o.phases a b y }

-- the mark of the place of this position is m
abbrev pub with_mark : BatchState → ℕ → ℕ → BatchState
with_mark o p m = record o { marks = slice_set o.marks (p % o.room) m }

-- the positions from a on and before b are published: the mark of a is twice b
abbrev pub with_up : BatchState → ℕ → ℕ → BatchState
with_up o a b = with_mark (with_phase o a b 1) a (2 * b)

-- the places of the positions from a on and before b are given back: the mark of a is twice b and one
abbrev pub with_back : BatchState → ℕ → ℕ → BatchState
with_back o a b = with_mark (with_phase o a b 3) a (2 * b + 1)

-- one taking more was made, of the positions before the new one
abbrev pub with_taken : BatchState → ℕ → BatchState
with_taken o new = record (with_phase o o.taken new 2) {
  taken = new;
  takings = o.takings ++ take (new - o.taken) (drop o.taken (items_of o)) ∷ [];
}

-- the window moved to this position
abbrev pub with_freed : BatchState → ℕ → BatchState
with_freed o new = record o { freed = new }

abbrev pub with_shut : BatchState → BatchState
with_shut o = record o { shut = true }

-- the batch that ends at e was parted at p: the mark of p is twice e
abbrev pub with_part : BatchState → ℕ → ℕ → BatchState
with_part o p e = record (with_mark o p (2 * e)) { parted = o.parted ++ p ∷ [] }

-- all these positions have this phase
abbrev pub AreIn : BatchState → ℕ → ℕ → ℕ → Type 0
AreIn o phase a b = (i : ℕ) → a ≤ i → i < b → phase_at o i ≡ phase

-- One event makes r of o: a batch was claimed, or published; what is published was taken, up to where a batch ends or
-- was parted; the places of a taking were given back; the window moved over places that were given back; the queue was
-- shut; or a batch was parted
pub data Becomes (o r : BatchState) : Type 0 where
  was_claimed : (claim : List ℕ) → 0 < length claim → o.shut ≡ false
      → length (items_of o) + length claim ≤ o.freed + o.room → r ≡ with_batch o claim → Becomes o r
  was_published : (a b : ℕ) → a < b → IsBatch o.batches a b → AreIn o 0 a b → r ≡ with_up o a b → Becomes o r
  was_taken : (new : ℕ) → o.taken < new → new ≤ length (items_of o) → IsStop o new → AreIn o 1 o.taken new
      → r ≡ with_taken o new → Becomes o r
  was_given : (a b : ℕ) → a < b → IsBatch o.takings a b → AreIn o 2 a b → r ≡ with_back o a b → Becomes o r
  was_freed : (new : ℕ) → o.freed < new → IsEdge o.takings new → ((i : ℕ) → o.freed ≤ i → i < new → 3 ≤ phase_at o i)
      → r ≡ with_freed o new → Becomes o r
  was_shut : r ≡ with_shut o → Becomes o r
  was_parted : (p e : ℕ) → IsWithin o p e → r ≡ with_part o p e → Becomes o r

-- r is no earlier than o, and has its room: the batches, takings and parted positions of r extend those of o, and no
-- phase, tail, window or shut mark went back
pub record Grows (o r : BatchState) : Type 0 where
  pub room : r.room ≡ o.room
  pub more : (rest : List (List ℕ)) × (o.batches ++ rest ≡ r.batches)
  pub takings : (rest : List (List ℕ)) × (o.takings ++ rest ≡ r.takings)
  pub phases : (i : ℕ) → phase_at o i ≤ phase_at r i
  pub taken : o.taken ≤ r.taken
  pub freed : o.freed ≤ r.freed
  pub shut : o.shut ≡ true → r.shut ≡ true
  pub parted : (rest : List ℕ) × (o.parted ++ rest ≡ r.parted)

-- a queue in which nothing was claimed
abbrev pub empty : Shape → BatchState
empty key = record {
  room = key.room;
  batches = [];
  takings = [];
  phases = [];
  taken = 0;
  freed = 0;
  shut = false;
  parted = [];
  marks = replicate key.room 0;
}
