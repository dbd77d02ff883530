-- Answers of puts: all entries that a put added, and how their numbers compare.
use Rattle.std.specs.Prelude.{◌≡◌, ◌⊎◌, ◌+◌, ◌<◌, ◌≤◌, ℕ, Bool, true, false, List, [], ◌∷◌, ◌++◌, length, min}
use Rattle.std.specs.Prelude.{take, Result, Ok, Err}
use Rattle.std.specs.List.{AllByRecursion}
use Rattle.atomic_table.specs.Table.{Me}
use Rattle.table_theory.specs.declared.views.AbsState.{AbsState}
use Rattle.table_theory.specs.Ledgers.{Step, load, change, Performed}
use Rattle.table_theory.specs.Listing.{Distinct}
use Rattle.batch_queue.specs.declared.layout.TheConstants.{POSITIONS, SHUT}
use Rattle.batch_queue.specs.declared.refusals.PutRefusal.{PutRefusal}
use Rattle.batch_queue.specs.declared.refusals.PutRefusal.TheVariants.{NoItems, TooLong, Closed, Spent, Full, Lost}
use Rattle.batch_queue.specs.declared.rule.BatchState.{BatchState}
use Rattle.batch_queue.specs.Layout.{head_word, mark_word}
use Rattle.batch_queue.specs.Moments.{IsOpenAt}
use Rattle.batch_queue.specs.Object.{with_batch, with_up}
pub use Rattle.batch_queue.specs.Own.{published, with_put}
use Rattle.batch_queue.specs.Own.{View, OnlyLoads, with_run}
pub use Rattle.batch_queue.specs.Lines.{Fits}
use Rattle.batch_queue.specs.Slots.{slots_of}
use Rattle.batch_queue.specs.Steps.{HoldsRange, IsClaim}
use Rattle.batch_queue.specs.Walks.{FreeBy}

-- The head was loaded, then the free position, and then a compare-and-swap of that head claimed positions for the
-- items: of `want` items as many as there was room for. Added says which list has these entries
pub record ClaimedBy (Added : List (Step BatchState) → Type 0) (room want start : ℕ) (items : List ℕ) : Type 0 where
  pub fits : Fits room (length items)
  pub at_head : AbsState BatchState
  pub bounded : start + want < POSITIONS
  pub free : ℕ
  pub moved : Bool
  pub looks : List (Step BatchState)
  pub looked : FreeBy room (start + want) free moved looks
  pub end : start + length items ≡ min (start + want) (free + room)
  pub at_claim : AbsState BatchState
  pub added : Added (load head_word start at_head
      ∷ (looks ++ change head_word start at_claim (with_batch at_claim.object items) ∷ []))

-- the items were claimed, and the end holds the slots of their positions
pub record HasClaimed (room want : ℕ) (v : View) (start : ℕ) (items : List ℕ) (m : Me ℕ View) : Type 0 where
  pub claim : ClaimedBy (λ entries. Performed v entries (with_run v.own start items) m.0) room want start items
  pub at : IsOpenAt claim.at_claim.object start
  pub apart : Distinct m.0.own.runs
  pub range : HoldsRange 0 start (length items) m.0
  pub is : IsClaim start items m.0
  pub values : List ℕ
  pub many : length values ≡ length items
  pub slots : m.1 ≡ slots_of room start values

-- the items were claimed, and then all of them published by one store, of the mark of the first position
abbrev pub PutBy : (List (Step BatchState) → Type 0) → ℕ → ℕ → ℕ → List ℕ → Type 0
PutBy Added room want start items = (mark : ℕ) × (m : AbsState BatchState)
    × ClaimedBy (λ entries. Added (entries ++ change (mark_word room start) mark m
    (with_up m.object start (start + length items)) ∷ [])) room want start items

-- the items were put as one batch, from this position on
abbrev pub IsPut : ℕ → View → ℕ → List ℕ → View → Type 0
IsPut room v start items w =
    PutBy (λ entries. Performed v entries (with_put v.own start items) w) room (length items) start items

-- the first n of the items were put as one batch, from this position on: as many as there was room for
abbrev pub IsPutSome : ℕ → View → ℕ → ℕ → List ℕ → View → Type 0
IsPutSome room v start n items w = PutBy (λ entries. Performed v entries (with_put v.own start (take n items)) w) room
    (min (length items) room) start (take n items)

-- the head that was loaded has the shut mark
pub record FoundShut (Added : List (Step BatchState) → Type 0) : Type 0 where
  pub head : ℕ
  pub at_head : AbsState BatchState
  pub marked : SHUT ≤ head
  pub added : Added (load head_word head at_head ∷ [])

-- `want` more items would go past the last position
pub record WasSpent (Added : List (Step BatchState) → Type 0) (want : ℕ) : Type 0 where
  pub head : ℕ
  pub at_head : AbsState BatchState
  pub is_open : head < SHUT
  pub spent : POSITIONS ≤ head + want
  pub added : Added (load head_word head at_head ∷ [])

-- There was no room for `least` items, by the free position that was found. `moved` is true if another end moved the
-- free position meanwhile
pub record LackedRoom (Added : List (Step BatchState) → Type 0) (room want least head free : ℕ) (moved : Bool)
    : Type 0 where
  pub at_head : AbsState BatchState
  pub bounded : head + want < POSITIONS
  pub looks : List (Step BatchState)
  pub looked : FreeBy room (head + want) free moved looks
  pub over : free + room < head + least
  pub added : Added (load head_word head at_head ∷ looks)

-- there was room, but the compare-and-swap found another head word, `now`
pub record FoundOther (Added : List (Step BatchState) → Type 0) (room want least head now : ℕ) : Type 0 where
  pub at_head : AbsState BatchState
  pub bounded : head + want < POSITIONS
  pub free : ℕ
  pub moved : Bool
  pub looks : List (Step BatchState)
  pub looked : FreeBy room (head + want) free moved looks
  pub there : head + least ≤ free + room
  pub at_exchange : AbsState BatchState
  pub added : Added (load head_word head at_head ∷ (looks ++ load head_word now at_exchange ∷ []))

-- the entries of a refused claim of at least `least` and at most `want` items
abbrev pub RefusedClaimBy : (List (Step BatchState) → Type 0) → ℕ → ℕ → ℕ → PutRefusal → Type 0
RefusedClaimBy Added room want least Closed =
    FoundShut Added ⊎ ((head now : ℕ) × (SHUT ≤ now) × FoundOther Added room want least head now)
RefusedClaimBy Added room want least Spent = WasSpent Added want
RefusedClaimBy Added room want least (Full head free) = LackedRoom Added room want least head free false
RefusedClaimBy Added room want least (Lost now) = ((free : ℕ) × LackedRoom Added room want least now free true)
    ⊎ ((head : ℕ) × (head < now) × (now < SHUT) × FoundOther Added room want least head now)
RefusedClaimBy Added room want least refusal = ⊥

-- the entries of a refused put
abbrev pub RefusedPutBy : (List (Step BatchState) → Type 0) → ℕ → ℕ → PutRefusal → Type 0
RefusedPutBy Added room count NoItems = (count ≡ 0) × Added []
RefusedPutBy Added room count TooLong = (room < count) × Added []
RefusedPutBy Added room count refusal = Fits room count × RefusedClaimBy Added room count count refusal

-- the entries of a refused put of as many of the first items as there is room for
abbrev pub RefusedSomeBy : (List (Step BatchState) → Type 0) → ℕ → ℕ → PutRefusal → Type 0
RefusedSomeBy Added room count NoItems = (count ≡ 0) × Added []
RefusedSomeBy Added room count refusal = (0 < count) × RefusedClaimBy Added room (min count room) 1 refusal

-- the put was refused; if no step was made, all is as it was
abbrev pub RefusedPut : ℕ → View → ℕ → PutRefusal → View → Type 0
RefusedPut room v count refusal w = RefusedPutBy (λ entries. OnlyLoads v entries w) room count refusal

-- the put of as many of the first items as there is room for was refused; if no step was made, all is as it was
abbrev pub RefusedSome : ℕ → View → ℕ → PutRefusal → View → Type 0
RefusedSome room v count refusal w = RefusedSomeBy (λ entries. OnlyLoads v entries w) room count refusal

abbrev pub is_lost : Result ℕ PutRefusal → Bool
is_lost (Err (Lost head)) = true
is_lost _ = false

-- the entries of a try that was lost
abbrev pub IsLostTry : ℕ → ℕ → List (Step BatchState) → Type 0
IsLostTry room count entries = (head : ℕ) × RefusedPutBy (λ e. e ≡ entries) room count (Lost head)

-- the entries of tries, in order
abbrev pub tried : List (List (Step BatchState)) → List (Step BatchState)
tried [] = []
tried (entries ∷ tries) = entries ++ tried tries

-- after tries that were lost, one try put the items or was refused for another reason; Lost is no answer
abbrev pub PutAnswer : ℕ → View → List ℕ → Result ℕ PutRefusal → View → Type 0
PutAnswer room v items (Ok start) w = (tries : List (List (Step BatchState)))
    × AllByRecursion (IsLostTry room (length items)) tries
    × PutBy (λ entries. Performed v (tried tries ++ entries) (with_put v.own start items) w)
    room (length items) start items
PutAnswer room v items (Err (Lost head)) w = ⊥
PutAnswer room v items (Err refusal) w = (tries : List (List (Step BatchState)))
    × AllByRecursion (IsLostTry room (length items)) tries
    × RefusedPutBy (λ entries. OnlyLoads v (tried tries ++ entries) w) room (length items) refusal
