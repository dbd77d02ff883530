-- A queue, what is left in it, and its events.
use Rattle.std.specs.Prelude.{ℕ, ◌+◌, ◌==◌, nat_lt, nat_le, Bool, false, not, ◌&&◌, ◌||◌, if◌then◌else◌, List}
use Rattle.std.specs.Prelude.{[], ◌∷◌, ◌++◌, length, map, take, drop, Option, Some, None, Result, Ok, Err}
use Rattle.std.specs.List.{list_all, slice_get, range_with_len}
use Rattle.event_theory.specs.Runs.{Run, flat, pairs}
use Rattle.event_theory.specs.declared.refusal.Refusal.{Refusal}
use Rattle.event_theory.specs.declared.refusal.Refusal.TheVariants.{UnknownName, NoItems, TooLong, Full, NotOwner}
use Rattle.event_theory.specs.declared.refusal.Refusal.TheVariants.{AlreadyRaised, NotRaised, Closed}

-- the runs in the order of their claims, the set of the pairs (run, index) that are raised, how many items were
-- taken, how many may be left at once, and whether it is shut
pub record Queue : Type 0 where
  pub history : List Run
  pub raised : ℕ → ℕ → Bool
  pub taken : ℕ
  pub capacity : ℕ
  pub shut : Bool

abbrev pub empty_queue : ℕ → Queue
empty_queue capacity = record {
  history = [];
  raised = λ run index. false;
  taken = 0;
  capacity = capacity;
  shut = false;
}

-- a queue with as many items as it may have, 0, 1, .. in their order, each a raised run of call 0
abbrev pub full_queue : ℕ → Queue
full_queue capacity = record {
  history = map (λ item. record { call = 0; items = item ∷ [] }) (range_with_len 0 capacity);
  raised = λ run index. nat_lt run capacity && index == 0;
  taken = 0;
  capacity = capacity;
  shut = false;
}

-- the items that are left, in claim order
abbrev pub left : Queue → List ℕ
left q = drop q.taken (flat q.history)

-- the pair (run, index) of each item that is left
abbrev pub left_pairs : Queue → List (ℕ × ℕ)
left_pairs q = drop q.taken (pairs q.history)

abbrev pub is_raised : Queue → ℕ × ℕ → Bool
is_raised q pair = q.raised pair.0 pair.1

-- at least `count` items are left, and the first `count` of them are raised
abbrev pub first_are_raised : ℕ → Queue → Bool
first_are_raised count q = nat_le count (length (left q)) && list_all (is_raised q) (take count (left_pairs q))

-- the set with this pair added
abbrev pub with_pair : ℕ → ℕ → (ℕ → ℕ → Bool) → ℕ → ℕ → Bool
with_pair run index set = λ r i. (r == run && i == index) || set r i

abbrev pub after_claim : ℕ → List ℕ → Queue → Queue
after_claim call items q = record q { history = q.history ++ record { call = call; items = items } ∷ [] }

abbrev pub after_raise : ℕ → ℕ → Queue → Queue
after_raise run index q = record q { raised = with_pair run index q.raised }

abbrev pub after_take : ℕ → Queue → Queue
after_take count q = record q { taken = q.taken + count }

-- a run of the call is appended; `longest` is the most items that a run may have
abbrev pub claim : ℕ → ℕ → List ℕ → Queue → Result Queue Refusal
claim longest call items q =
    if length items == 0 then Err NoItems
    else if nat_lt longest (length items) then Err TooLong
    else if q.shut then Err Closed
    else if nat_lt q.capacity (length (left q) + length items) then Err Full
    else Ok (after_claim call items q)

abbrev pub raise_of : ℕ → ℕ → ℕ → Queue → Option Run → Result Queue Refusal
raise_of call run index q None = Err UnknownName
raise_of call run index q (Some claimed) =
    if nat_le (length claimed.items) index then Err UnknownName
    else if not (claimed.call == call) then Err NotOwner
    else if q.raised run index then Err AlreadyRaised
    else Ok (after_raise run index q)

-- one item of a run of the call is raised
abbrev pub raise : ℕ → ℕ → ℕ → Queue → Result Queue Refusal
raise call run index q = raise_of call run index q (slice_get q.history run)

-- the first items that are left are taken; `longest` is the most items that one taking may have
abbrev pub take_first : ℕ → ℕ → Queue → Result Queue Refusal
take_first longest count q =
    if count == 0 then Err NoItems
    else if nat_lt longest count then Err TooLong
    else if not (first_are_raised count q) then Err NotRaised
    else Ok (after_take count q)

-- a call's name after the call `other` was joined to the first call
abbrev pub renamed : ℕ → ℕ → ℕ → ℕ
renamed call other name = if name == other then call else name

abbrev pub join_run : ℕ → ℕ → Run → Run
join_run call other run = record run { call = renamed call other run.call }

-- the runs of the call `other` become runs of the first call
abbrev pub join_queue : ℕ → ℕ → Queue → Queue
join_queue call other q = record q { history = map (join_run call other) q.history }
