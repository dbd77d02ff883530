-- The effects of the calls of a batch queue on an end of it. Each definition states what the library's call states.
use Rattle.std.specs.Prelude.{◌≡◌, ◌≤◌, ◌<◌, ◌+◌, ◌++◌, ℕ, Bool, true, take, List, length, Result, MatchResult, IfErr}
use Rattle.std.specs.Prelude.{Ok, Err, Some, zero, suc, [], ◌∷◌, ◌⊎◌, slice_set}
use Rattle.std.specs.List.{slice_get}
use Rattle.std.specs.Arc.{arc_value}
use Rattle.batch_queue.specs.Lines.{SameLines, PutLine, lines_put, lines_taken, times_parted}
use Rattle.batch_queue.specs.Parts.{FilledSome, SameSome, WhyNotTakenSome, TookSome, RefusedTakeSome}
use Rattle.batch_queue.specs.Puts.{IsPut, IsPutSome, RefusedPut, RefusedSome}
use Rattle.batch_queue.specs.Hints.{LookedAround, IsUpTo, Looked}
use Rattle.batch_queue.specs.Client.{WhyNotPut, WhyNotPutSome, WhyNotTaken}
pub use Rattle.batch_queue.specs.Handles.{IsSameEnd, view_of, room_of}
use Rattle.batch_queue.specs.Takings.{FilledBuffer, TookBatches, RefusedTake}
use Rattle.batch_queue.specs.Closings.{ShutNow, ClosedNow}
use Rattle.batch_queue.specs.Lefts.{IsPublished, IsPublishedFrom, items_left}
use Rattle.batch_queue.specs.declared.left.LeftItems.{LeftItems}
use Rattle.batch_queue.specs.Rules.{newcomer}
use Rattle.batch_queue.specs.Plain.{BatchQueue}
use Rattle.batch_queue.specs.Layout.{IsPowerOfTwo}
use Rattle.table_theory.specs.Sharing.{the_whole}
use Rattle.batch_queue.specs.declared.ends.BatchEnd.{BatchEnd}
use Rattle.batch_queue.specs.declared.look.QueueLook.{QueueLook}
use Rattle.batch_queue.specs.declared.layout.TheConstants.{MOST_PLACES}
pub use Rattle.batch_queue.specs.declared.refusals.PutRefusal.{PutRefusal}
pub use Rattle.batch_queue.specs.declared.refusals.TakeRefusal.{TakeRefusal}
use Rattle.batch_queue.specs.declared.refusals.PutRefusal.TheVariants as not_put
use Rattle.batch_queue.specs.Handles as batches
use Rattle.batch_queue.specs.Endings as endings
use Rattle.bindings.specs.Shares.{AllOf, WasDivided, WasJoined}
pub use Rattle.bindings.specs.Kinds.{HeldBatch}
use Rattle.bindings.specs.QueueTaking.{IsKeptFrom}
use Rattle.bindings.specs.declared.batch.SynthBatchLook.{SynthBatchLook}
pub use Rattle.bindings.specs.declared.batch.closing.SynthBatchClosed.{SynthBatchClosed}

-- a number of places that a batch queue can have: 1 to MOST_PLACES, and a power of two
abbrev pub IsCapacity : ℕ → Type 0
IsCapacity places = (0 < places) × (places ≤ MOST_PLACES) × IsPowerOfTwo places

-- how many places the queue has
abbrev pub places_of : HeldBatch → ℕ
places_of x = room_of (arc_value x.queue)

-- the same end of the same queue
abbrev pub IsSameHeld : HeldBatch → HeldBatch → Type 0
IsSameHeld x y = (arc_value y.queue ≡ arc_value x.queue) × IsSameEnd x.end y.end

-- the same end of the same queue, with an unchanged share
abbrev pub IsKept : HeldBatch → HeldBatch → Type 0
IsKept x y = IsSameHeld x y × (y.share ≡ x.share)

-- both are ends of one queue
abbrev pub AreOfOneQueue : HeldBatch → HeldBatch → Type 0
AreOfOneQueue x y = batches.AreOfOneQueue x.end y.end

-- the only end of an empty queue with this number of places and this mark
abbrev pub IsNewBatch : ℕ → ℕ → HeldBatch → Type 0
IsNewBatch places mark x = (places_of x ≡ places) × (view_of x.end ≡ newcomer (record { room = places }))
    × AllOf mark x.share

-- the end put and took nothing, parted no batch and kept its share
abbrev pub DidNothing : HeldBatch → HeldBatch → Type 0
DidNothing x y = SameLines (view_of x.end) (view_of y.end)

-- `split` made `born`, an end of the same queue, with a part of the share of x
pub record SplitBy (x y born : HeldBatch) : Type 0 where
  pub same : IsSameHeld x y
  pub one : arc_value born.queue ≡ arc_value x.queue
  pub share : WasDivided x.share y.share born.share
  pub effect : (lines_put (view_of y.end) ≡ lines_put (view_of x.end))
      × (lines_taken (view_of y.end) ≡ lines_taken (view_of x.end))
      × (times_parted (view_of y.end) ≡ times_parted (view_of x.end))
  pub result : endings.IsNewEnd (view_of x.end) (view_of y.end) (view_of born.end)
  pub trace : endings.SplitBy (view_of x.end) (view_of y.end)

-- `join` took in the end `other`, with its parts of the share
pub record Joined (x y other : HeldBatch) : Type 0 where
  pub same : IsSameHeld x y
  pub share : WasJoined x.share y.share other.share
  pub effect : (lines_put (view_of y.end) ≡ lines_put (view_of x.end) ++ lines_put (view_of other.end))
      × (lines_taken (view_of y.end) ≡ lines_taken (view_of x.end) ++ lines_taken (view_of other.end))
      × (times_parted (view_of y.end) ≡ times_parted (view_of x.end) + times_parted (view_of other.end))
  pub trace : endings.JoinedBy (view_of x.end) (view_of other.end) (view_of y.end)

-- the end has seen that the queue is shut
abbrev pub SawShut : HeldBatch → Type 0
SawShut x = (view_of x.end).seen.object.shut ≡ true

-- the answer is the refusal `Closed`
abbrev pub SaysShut : {X : Type 0} → Result X PutRefusal → Type 0
SaysShut answer = MatchResult answer (λ start. ⊥) (λ r. r ≡ not_put.Closed)

-- `try_put` gave this answer
pub record Put (items : List ℕ) (answer : Result ℕ PutRefusal) (x y : HeldBatch) : Type 0 where
  pub same : IsKept x y
  pub effect : MatchResult answer (λ start. PutLine items (view_of x.end) (view_of y.end)) (λ r. DidNothing x y)
  pub error : IfErr answer (λ r. WhyNotPut (view_of x.end) (places_of x) (length items) r (view_of y.end))
  pub shut : SawShut x → 0 < length items → length items ≤ places_of x → SaysShut answer
  pub trace : MatchResult answer (λ start. IsPut (places_of x) (view_of x.end) start items (view_of y.end))
      (λ r. RefusedPut (places_of x) (view_of x.end) (length items) r (view_of y.end))

-- `try_put_some` gave this answer
pub record PutSome (items : List ℕ) (answer : Result (ℕ × ℕ) PutRefusal) (x y : HeldBatch) : Type 0 where
  pub same : IsKept x y
  pub effect : MatchResult answer (λ r. (0 < r.1) × (r.1 ≤ length items)
      × PutLine (take r.1 items) (view_of x.end) (view_of y.end)) (λ r. DidNothing x y)
  pub error : IfErr answer (λ r. WhyNotPutSome (view_of x.end) (places_of x) (length items) r (view_of y.end))
  pub shut : SawShut x → 0 < length items → SaysShut answer
  pub trace : MatchResult answer (λ r. IsPutSome (places_of x) (view_of x.end) r.0 r.1 items (view_of y.end))
      (λ r. RefusedSome (places_of x) (view_of x.end) (length items) r (view_of y.end))

-- `try_take` gave this answer
pub record Took (old new : List ℕ) (answer : Result ℕ TakeRefusal) (x y : HeldBatch) : Type 0 where
  pub same : IsKept x y
  pub effect : MatchResult answer (λ n. FilledBuffer n old new (view_of x.end) (view_of y.end))
      (λ r. DidNothing x y × (new ≡ old))
  pub error : IfErr answer (λ r. WhyNotTaken (view_of x.end) (length old) r (view_of y.end))
  pub trace : MatchResult answer
      (λ n. TookBatches (places_of x) (view_of x.end) (length old) (take n new) (view_of y.end))
      (λ r. RefusedTake (places_of x) (view_of x.end) (length old) r (view_of y.end))

-- `try_take_some` gave this answer
pub record TookUpTo (old new : List ℕ) (answer : Result ℕ TakeRefusal) (x y : HeldBatch) : Type 0 where
  pub same : IsKept x y
  pub effect : MatchResult answer (λ n. FilledSome n old new (view_of x.end) (view_of y.end))
      (λ r. SameSome (view_of x.end) (view_of y.end) × (new ≡ old))
  pub error : IfErr answer (λ r. WhyNotTakenSome (view_of x.end) (length old) r (view_of y.end))
  pub trace : MatchResult answer (λ n. TookSome (places_of x) (view_of x.end) (length old) (take n new) (view_of y.end))
      (λ r. RefusedTakeSome (places_of x) (view_of x.end) (length old) r (view_of y.end))

-- `len` gave this hint
pub record Counted (count : ℕ) (x y : HeldBatch) : Type 0 where
  pub same : IsKept x y
  pub effect : DidNothing x y
  pub trace : LookedAround (view_of x.end) count (view_of y.end)

-- `shut` gave this answer
pub record WasShut (was_open : Bool) (x y : HeldBatch) : Type 0 where
  pub same : IsKept x y
  pub effect : DidNothing x y × ((view_of y.end).seen.object.shut ≡ true)
  pub trace : ShutNow (view_of x.end) was_open (view_of y.end)

-- the items of the first n numbers that were published, in their order
abbrev pub PublishedOf : LeftItems → ℕ → List ℕ → Type 0
PublishedOf left zero xs = xs ≡ []
PublishedOf left (suc n) xs = (IsPublished left n × (before : List ℕ) × (x : ℕ) × PublishedOf left n before
    × (slice_get (items_left left) n ≡ Some x) × (xs ≡ before ++ x ∷ []))
    ⊎ ((IsPublished left n → ⊥) × PublishedOf left n xs)

-- `to` is `past`, or a published batch that begins with the item i ends there; and none that begins there ends later
abbrev pub Reaches : LeftItems → ℕ → ℕ → ℕ → Type 0
Reaches left i past to = (past ≤ to) × ((e : ℕ) → IsPublishedFrom left i e → e ≤ to)
    × ((to ≡ past) ⊎ IsPublishedFrom left i to)

-- the item i is before `past`, and is at this place of the buffer; or it isn't, and nothing was copied
abbrev pub CopiedNext : LeftItems → ℕ → ℕ → ℕ → List ℕ → List ℕ → ℕ → Type 0
CopiedNext left i past place old new next = ((past ≤ i) × (next ≡ place) × (new ≡ old))
    ⊎ ((i < past) × (next ≡ place + 1)
    × (x : ℕ) × (slice_get (items_left left) i ≡ Some x) × (new ≡ slice_set old place x))

-- The queue is closed; the `c.left` items left are at the beginning of the buffer, whose rest is unchanged. Each put
-- returned, so none is broken
abbrev pub ClosedInto : List ℕ → List ℕ → SynthBatchClosed → BatchQueue → BatchEnd → Type 0
ClosedInto old new c queue end = (c.left ≤ room_of queue) × IsKeptFrom c.left old new
    × ClosedNow (view_of end) c.put c.taken (take c.left new) × (c.broken ≡ 0)

-- the end has all parts, and closed the queue; or the end and the buffer are unchanged
abbrev pub Ended : List ℕ → List ℕ → Result SynthBatchClosed HeldBatch → HeldBatch → Type 0
Ended old new (Ok c) x = (x.share.parts ≡ the_whole) × ClosedInto old new c (arc_value x.queue) x.end
Ended old new (Err y) x = (y ≡ x) × (new ≡ old)

-- the library's own record of the look
abbrev pub found_by : SynthBatchLook → QueueLook
found_by a = record { tail = a.tail; published = a.published; head = a.head; shut = a.shut }

-- `look` found this
pub record WasLookedAt (found : QueueLook) (x y : HeldBatch) : Type 0 where
  pub same : IsKept x y
  pub effect : DidNothing x y
  pub result : (found.tail ≤ found.published) × (found.tail ≤ found.head)
      × IsUpTo (view_of y.end) found.tail found.published
  pub trace : Looked (places_of x) (view_of x.end) found (view_of y.end)
