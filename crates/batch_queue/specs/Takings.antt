-- Answers of takings: all entries that a taking added, and how their numbers compare.
use Rattle.std.specs.Prelude.{◌≡◌, ◌≢◌, ◌⊎◌, ◌+◌, ◌/◌, ◌<◌, ◌≤◌, ℕ, min, List, [], ◌∷◌, ◌++◌, length}
use Rattle.std.specs.Prelude.{Bool, true, false, IsTrue, IsFalse}
use Rattle.std.specs.Prelude.{Result, Ok, Err}
use Rattle.std.specs.List.{AllByRecursion}
use Rattle.atomic_table.specs.Table.{Me}
use Rattle.table_theory.specs.declared.views.AbsState.{AbsState}
use Rattle.table_theory.specs.Ledgers.{Step, load, change, Performed}
use Rattle.batch_queue.specs.declared.layout.TheConstants.{SHUT}
use Rattle.batch_queue.specs.declared.refusals.TakeRefusal.{TakeRefusal}
use Rattle.batch_queue.specs.declared.refusals.TakeRefusal.TheVariants.{Empty, ShortBuffer, Lost, Closed}
use Rattle.batch_queue.specs.declared.rule.BatchState.{BatchState}
use Rattle.batch_queue.specs.Layout.{head_word, tail_word, mark_word}
pub use Rattle.batch_queue.specs.Lines.{AreBatches, AreFirst, FilledBuffer}
use Rattle.batch_queue.specs.Object.{with_back, with_taken}
pub use Rattle.batch_queue.specs.Own.{with_line}
use Rattle.batch_queue.specs.Own.{View, with_taking}
use Rattle.batch_queue.specs.Puts.{tried}
use Rattle.batch_queue.specs.Slots.{slots_of}
use Rattle.batch_queue.specs.Steps.{Found, HoldsRange}
use Rattle.batch_queue.specs.Walks.{LeadsOn, FollowedBy}

-- The tail was loaded, and marks of published batches were followed from it, as far as they lead within the buffer and
-- the places. Then a compare-and-swap of that tail took the items, which were the first ones left. Added says which
-- list has these entries, given the moment of the compare-and-swap
pub record TakenBy (Added : AbsState BatchState → List (Step BatchState) → Type 0) (room most tail : ℕ) (items : List ℕ)
    : Type 0 where
  pub some_item : 0 < length items
  pub within : length items ≤ min most room
  pub at_tail : AbsState BatchState
  pub loads : List (Step BatchState)
  pub followed : FollowedBy 0 (tail + min most room) room tail (tail + length items) loads
  pub at_taking : AbsState BatchState
  pub first : AreFirst at_taking.object items
  pub added : Added at_taking (load tail_word tail at_tail
      ∷ (loads ++ change tail_word tail at_taking (with_taken at_taking.object (tail + length items)) ∷ []))

-- the items were taken, and the end holds their slots
pub record HasTaken (room most : ℕ) (v : View) (tail : ℕ) (items : List ℕ) (m : Me ℕ View) : Type 0 where
  pub taken : TakenBy (λ at entries. Performed v entries (with_taking v.own at.object (length items)) m.0)
      room most tail items
  pub start : taken.at_taking.object.taken ≡ tail
  pub range : HoldsRange 2 tail (length items) m.0
  pub slots : m.1 ≡ slots_of room tail items

-- the items were taken, and after they were read, their places were given back by one store, of the mark of the first
abbrev pub TookBy : (AbsState BatchState → List (Step BatchState) → Type 0) → ℕ → ℕ → List ℕ → Type 0
TookBy Added room most items = (tail mark : ℕ) × (m : AbsState BatchState)
    × TakenBy (λ at entries. Added at (entries ++ change (mark_word room tail) mark m
    (with_back m.object tail (tail + length items)) ∷ [])) room most tail items

-- the items were taken into a buffer of `most` items, and the end has one line more
abbrev pub TookBatches : ℕ → View → ℕ → List ℕ → View → Type 0
TookBatches room v most items w =
    TookBy (λ at entries. Performed v entries (with_line v.own at.object (length items)) w) room most items

-- the first loads of a taking: the tail, and the mark of the tail
pub record Glance : Type 0 where
  pub tail : ℕ
  pub at_tail : AbsState BatchState
  pub mark : ℕ
  pub at_mark : AbsState BatchState

-- the entries of a glance
abbrev pub glanced : ℕ → Glance → List (Step BatchState)
glanced room g = load tail_word g.tail g.at_tail ∷ load (mark_word room g.tail) g.mark g.at_mark ∷ []

-- no batch was published at that tail
abbrev pub FoundNone : Glance → Type 0
FoundNone g = LeadsOn 0 g.tail g.mark → ⊥

-- the batch at that tail has `count` items, more than the buffer or the queue has room for
abbrev pub FoundLong : ℕ → ℕ → ℕ → Glance → Type 0
FoundLong room most count g = LeadsOn 0 g.tail g.mark × (g.tail + count ≡ g.mark / 2) × (min most room < count)

-- No batch was published at the tail `at`, the queue was not shut with that tail as its head, and then the tail was
-- found unchanged
pub record WasEmpty (Added : List (Step BatchState) → Type 0) (room at : ℕ) : Type 0 where
  pub glance : Glance
  pub none : FoundNone glance
  pub is : glance.tail ≡ at
  pub head : ℕ
  pub at_head : AbsState BatchState
  pub going : head ≢ SHUT + at
  pub again : AbsState BatchState
  pub added : Added (glanced room glance ++ load head_word head at_head ∷ load tail_word at again ∷ [])

-- the batch at the tail `at` has `count` items, too many, and then the tail was found unchanged
pub record WasLong (Added : List (Step BatchState) → Type 0) (room most at count : ℕ) : Type 0 where
  pub glance : Glance
  pub long : FoundLong room most count glance
  pub is : glance.tail ≡ at
  pub again : AbsState BatchState
  pub added : Added (glanced room glance ++ load tail_word at again ∷ [])

-- no batch was published at the tail, the queue was not shut with that tail as its head, and a later tail was found
pub record PassedEmpty (Added : List (Step BatchState) → Type 0) (room now : ℕ) : Type 0 where
  pub glance : Glance
  pub none : FoundNone glance
  pub head : ℕ
  pub at_head : AbsState BatchState
  pub going : head ≢ SHUT + glance.tail
  pub past : glance.tail < now
  pub again : AbsState BatchState
  pub added : Added (glanced room glance ++ load head_word head at_head ∷ load tail_word now again ∷ [])

-- the batch at the tail was too long, and then a later tail was found
pub record PassedLong (Added : List (Step BatchState) → Type 0) (room most now : ℕ) : Type 0 where
  pub glance : Glance
  pub count : ℕ
  pub long : FoundLong room most count glance
  pub past : glance.tail < now
  pub again : AbsState BatchState
  pub added : Added (glanced room glance ++ load tail_word now again ∷ [])

-- batches were found, but the compare-and-swap found another tail, past the one loaded
pub record PassedFound (Added : List (Step BatchState) → Type 0) (room most now : ℕ) : Type 0 where
  pub tail : ℕ
  pub new : ℕ
  pub some_item : tail < new
  pub at_tail : AbsState BatchState
  pub loads : List (Step BatchState)
  pub followed : FollowedBy 0 (tail + min most room) room tail new loads
  pub past : tail < now
  pub at_exchange : AbsState BatchState
  pub added : Added (load tail_word tail at_tail ∷ (loads ++ load tail_word now at_exchange ∷ []))

-- no batch was published at the tail, and the head word was the shut mark and that tail
pub record WasDone (Added : List (Step BatchState) → Type 0) (room : ℕ) : Type 0 where
  pub glance : Glance
  pub none : FoundNone glance
  pub at_head : AbsState BatchState
  pub added : Added (glanced room glance ++ load head_word (SHUT + glance.tail) at_head ∷ [])

-- the entries of a taking that found nothing published at the tail
abbrev pub NoneBy : (List (Step BatchState) → Type 0) → ℕ → TakeRefusal → Type 0
NoneBy Added room (Empty at) = WasEmpty Added room at
NoneBy Added room (Lost now) = PassedEmpty Added room now
NoneBy Added room Closed = WasDone Added room
NoneBy Added room refusal = ⊥

-- the entries of a refused taking
abbrev pub RefusedTakeBy : (List (Step BatchState) → Type 0) → ℕ → ℕ → TakeRefusal → Type 0
RefusedTakeBy Added room most (Empty at) = WasEmpty Added room at
RefusedTakeBy Added room most (ShortBuffer at count) = (most < count) × WasLong Added room most at count
RefusedTakeBy Added room most (Lost now) =
    PassedEmpty Added room now ⊎ (PassedLong Added room most now ⊎ PassedFound Added room most now)
RefusedTakeBy Added room most Closed = WasDone Added room

-- the taking into a buffer of `most` items was refused, and the end did nothing else
abbrev pub RefusedTake : ℕ → View → ℕ → TakeRefusal → View → Type 0
RefusedTake room v most refusal w = RefusedTakeBy (λ entries. Performed v entries v.own w) room most refusal

-- a taking that waits retries after this answer
abbrev pub must_wait : Result ℕ TakeRefusal → Bool
must_wait (Err (Empty at)) = true
must_wait (Err (Lost tail)) = true
must_wait _ = false

-- the entries of a try after which a taking that waits retries
abbrev pub IsIdleTry : ℕ → ℕ → List (Step BatchState) → Type 0
IsIdleTry room most entries = (r : TakeRefusal) × IsTrue (must_wait (Err r))
    × RefusedTakeBy (λ e. e ≡ entries) room most r

-- after tries that were Empty or Lost, one try took items or was refused for another reason; Empty and Lost are no
-- answers
abbrev pub TakeAnswer : ℕ → View → ℕ → List ℕ → Result ℕ TakeRefusal → View → Type 0
TakeAnswer room v most line (Ok n) w = (tries : List (List (Step BatchState)))
    × AllByRecursion (IsIdleTry room most) tries
    × TookBy (λ at entries. Performed v (tried tries ++ entries) (with_line v.own at.object (length line)) w)
    room most line
TakeAnswer room v most line (Err refusal) w = IsFalse (must_wait (Err refusal))
    × (tries : List (List (Step BatchState)))
    × AllByRecursion (IsIdleTry room most) tries
    × RefusedTakeBy (λ entries. Performed v (tried tries ++ entries) v.own w) room most refusal

-- The head was loaded, and then the tail
pub record LookedTwice (head tail : ℕ) (v w : View) : Type 0 where
  pub between : View
  pub head_is : Found v head_word head between
  pub tail_is : Found between tail_word tail w

-- the refusal at a tail at which nothing was found published: by the head and, except for Closed, by the tail after it
abbrev pub IsNone : ℕ → View → TakeRefusal → View → Type 0
IsNone tail v (Empty at) w = (at ≡ tail) × (head : ℕ) × (head ≢ SHUT + tail) × LookedTwice head tail v w
IsNone tail v (Lost now) w = (now ≢ tail) × (head : ℕ) × (head ≢ SHUT + tail) × LookedTwice head now v w
IsNone tail v Closed w = Found v head_word (SHUT + tail) w
IsNone tail v refusal w = ⊥

-- the refusal at a tail at which a batch of `count` items was found, by the tail that was loaded after that
abbrev pub IsShort : ℕ → ℕ → View → TakeRefusal → View → Type 0
IsShort tail count v (ShortBuffer at n) w = (at ≡ tail) × (n ≡ count) × Found v tail_word tail w
IsShort tail count v (Lost now) w = (now ≢ tail) × Found v tail_word now w
IsShort tail count v refusal w = ⊥
