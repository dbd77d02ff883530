-- Answers of raising and of putting a run.
use Rattle.std.specs.Prelude.{◌+◌, ◌<◌, ℕ, List, [], ◌∷◌, ◌++◌, length, take, slice_index_or, Bool, true, false}
use Rattle.std.specs.Prelude.{Result, Ok, Err}
use Rattle.std.specs.List.{AllByRecursion}
use Rattle.table_theory.specs.Batches.{IsPast}
use Rattle.table_theory.specs.declared.queues.Positions.{Positions}
use Rattle.table_theory.specs.declared.views.AbsState.{AbsState}
use Rattle.table_theory.specs.Ledgers.{Step, load, change, Performed}
use Rattle.table_theory.specs.Positioned.{fresh}
use Rattle.claim_queue.specs.declared.claim.ClaimRefusal.{ClaimRefusal}
use Rattle.claim_queue.specs.declared.claim.ClaimRefusal.TheVariants.{Lost}
use Rattle.claim_queue.specs.declared.layout.TheConstants.{SHUT}
use Rattle.claim_queue.specs.Answers.{Fits, HasRoom, ClaimedBy, RefusedBy}
use Rattle.claim_queue.specs.Changes.{IsPlace, with_stage_at}
use Rattle.claim_queue.specs.Claims.{run_of}
use Rattle.claim_queue.specs.Layout.{head_word, tail_word, data_word, flag_word}
use Rattle.claim_queue.specs.Own.{View, with_run, with_changed, OnlyLoads}

-- the numbers that the two stores of a raise found in the data word and in the flag word, each at its moment
pub record Raise : Type 0 where
  pub found_data : ℕ
  pub at_data : AbsState Positions
  pub found_flag : ℕ
  pub at_flag : AbsState Positions

-- the entries of a raise: the item was stored in its data word, and then the flag in its flag word
abbrev pub raise_entries : ℕ → ℕ → Raise → List (Step Positions)
raise_entries room position r =
    change (data_word room position) r.found_data r.at_data (with_stage_at r.at_data.object position 1)
    ∷ change (flag_word room position) r.found_flag r.at_flag (with_stage_at r.at_flag.object position 2) ∷ []

-- the place was claimed for this item: at the first store nothing was written, and at the second the item was stored
pub record IsRaise (position item : ℕ) (r : Raise) : Type 0 where
  pub was_claimed : IsPlace r.at_data.object position (fresh item)
  pub was_stored : IsPlace r.at_flag.object position (record { item = item; stage = 1 })

-- the entries of raises from this position on, one after the other
abbrev pub raising : ℕ → ℕ → List Raise → List (Step Positions)
raising room position [] = []
raising room position (r ∷ raises) = raise_entries room position r ++ raising room (position + 1) raises

-- there is one raise for each of these items, from this position on
abbrev pub AreRaises : ℕ → List ℕ → List Raise → Type 0
AreRaises position [] [] = Unit {0}
AreRaises position (x ∷ items) (r ∷ raises) = IsRaise position x r × AreRaises (position + 1) items raises
AreRaises position items raises = ⊥

-- the place i of the end's run from `start` on was raised
abbrev pub Raised : ℕ → View → ℕ → List ℕ → ℕ → View → Type 0
Raised room v start items i w = (r : Raise) × IsRaise (start + i) (slice_index_or items i 0) r
    × Performed v (raise_entries room (start + i) r) (with_changed v.own (run_of start items (i + 1))) w

-- the first n items of the end's run from `start` on were raised, one after the other
abbrev pub RaisedFrom : ℕ → ℕ → List ℕ → View → View → ℕ → Type 0
RaisedFrom room start items v w n = (raises : List Raise) × AreRaises start (take n items) raises
    × Performed v (raising room start raises) (with_changed v.own (run_of start items n)) w

-- the items were claimed by one claim, and then all raised
abbrev pub PutBy : (List (Step Positions) → Type 0) → ℕ → ℕ → List ℕ → Type 0
PutBy Added room start items = (raises : List Raise) × AreRaises start items raises
    × ClaimedBy (λ entries. Added (entries ++ raising room start raises)) room start items

-- the items were put, at or past the end of each earlier run: the end has one run more, all of it raised
abbrev pub IsPut : ℕ → View → ℕ → List ℕ → View → Type 0
IsPut room v start items w = IsPast v.own.runs start
    × PutBy (λ entries. Performed v entries (with_run v.own (run_of start items (length items))) w) room start items

-- a lost try: the head and the tail that were loaded, and the head that the compare-and-swap found
pub record Try : Type 0 where
  pub head : ℕ
  pub at_head : AbsState Positions
  pub tail : ℕ
  pub at_tail : AbsState Positions
  pub found : ℕ
  pub at_exchange : AbsState Positions

-- `count` items fit and there was room, but the compare-and-swap found another head, past the one loaded
abbrev pub IsLost : ℕ → ℕ → Try → Type 0
IsLost room count t = Fits room count × HasRoom room count t.head t.tail × (t.found < SHUT) × (t.head < t.found)

-- the entries of lost tries, one after the other
abbrev pub tried : List Try → List (Step Positions)
tried [] = []
tried (t ∷ tries) = load head_word t.head t.at_head ∷ load tail_word t.tail t.at_tail
    ∷ load head_word t.found t.at_exchange ∷ tried tries

abbrev pub is_lost : Result ℕ ClaimRefusal → Bool
is_lost (Err (Lost head)) = true
is_lost _ = false

-- after tries that were lost, one try put the items or was refused for another reason; Lost is no answer
abbrev pub PutAnswer : ℕ → View → List ℕ → Result ℕ ClaimRefusal → View → Type 0
PutAnswer room v items (Ok start) w = IsPast v.own.runs start × (tries : List Try)
    × AllByRecursion (IsLost room (length items)) tries
    × PutBy (λ entries. Performed v (tried tries ++ entries) (with_run v.own (run_of start items (length items))) w)
    room start items
PutAnswer room v items (Err (Lost head)) w = ⊥
PutAnswer room v items (Err refusal) w = (tries : List Try) × AllByRecursion (IsLost room (length items)) tries
    × RefusedBy (λ entries. OnlyLoads v (tried tries ++ entries) w) room (length items) refusal
