-- The promises of a queue's calls to their clients, in the queue's own words: its head and tail, its batches, and its
-- room. Each step of a call found the queue at a moment of the call.
use Rattle.std.specs.Prelude.{◌≡◌, ◌⊎◌, ◌+◌, ◌<◌, ◌≤◌, ℕ, Bool, true, false, not, if◌then◌else◌, List, length, min}
use Rattle.std.specs.Prelude.{[], ◌∷◌, ◌++◌, take}
use mathlib.Core.Option.{some}
use lib.ListN.{get_elem?}
use Rattle.atomic_table.specs.Table.{State}
use Rattle.table_theory.specs.Protocols.{Condition, WasPut, placed_lines}
use Rattle.table_theory.specs.Sharing.{IsWhole}
use Rattle.batch_queue.specs.declared.layout.TheConstants.{POSITIONS}
use Rattle.batch_queue.specs.declared.look.QueueLook.{QueueLook}
use Rattle.batch_queue.specs.declared.refusals.PutRefusal.{PutRefusal}
use Rattle.batch_queue.specs.declared.refusals.PutRefusal.TheVariants as not_put
use Rattle.batch_queue.specs.declared.refusals.TakeRefusal.{TakeRefusal}
use Rattle.batch_queue.specs.declared.refusals.TakeRefusal.TheVariants as not_taken
use Rattle.batch_queue.specs.Between.{ShowsQueue}
use Rattle.batch_queue.specs.declared.rule.BatchState.{BatchState}
use Rattle.batch_queue.specs.declared.rule.Shape.{Shape}
use Rattle.batch_queue.specs.Lines.{times_parted, AreFirst, AreSome, Fits}
use Rattle.batch_queue.specs.Moments.{AtSomeMoment, AtTwoMoments, ChangedByOthers, claimed, IsGivenBackTo, IsOpenAt}
use Rattle.batch_queue.specs.Object.{phase_at, Grows, IsRest, IsStop, LacksUpTo, NoneFits}
use Rattle.batch_queue.specs.Own.{View, taking, with_line, with_put}
use Rattle.batch_queue.specs.Placed.{positions_of}
use Rattle.batch_queue.specs.Rules.{KeepsTo}

-- r is no earlier than o: no head, tail, phase or shut mark went back
pub record IsLater (o r : BatchState) : Type 0 where
  pub claims : claimed o ≤ claimed r
  pub taken : o.taken ≤ r.taken
  pub phases : (i : ℕ) → phase_at o i ≤ phase_at r i
  pub shut : o.shut ≡ true → r.shut ≡ true

-- the end did not shut the queue, and what it sees is no earlier than what it had seen
pub record GoesOn (v w : View) : Type 0 where
  pub shuts : w.own.shuts ≡ v.own.shuts
  pub later : IsLater v.seen.object w.seen.object

-- PUTS

-- The items were put from the position `start` on. At a moment of the call `start` was the head of the open queue. Then
-- the end's record has one more run, of these items from `start` on, all of them published, and nothing else
abbrev pub HasPut : View → ℕ → List ℕ → View → Type 0
HasPut v start items w = AtSomeMoment v w (λ o. IsOpenAt o start) × (w.own ≡ with_put v.own start items)

-- Of `want` items, `count` were put from `start` on, as many as there was room for: all of them, or as many as the room
-- had when the places before `free` were given back. No more were given back at a moment, or other ends moved `free` on
abbrev pub HasUsedRoom : View → ℕ → ℕ → ℕ → ℕ → View → Type 0
HasUsedRoom v room want start count w = (count ≡ want) ⊎ ((free : ℕ) × (start + count ≡ free + room)
    × (AtSomeMoment v w (λ o. IsGivenBackTo o free)
    ⊎ ChangedByOthers v w (λ o later. (o.freed < later.freed) × (later.freed ≡ free))))

-- The meaning of a refused claim of at least `least` and at most `want` items. Closed: the queue was shut. Spent: too
-- few positions were left. Full: the queue had no room for `least` items. Lost: other ends claimed; or they moved the
-- room on, and it was still too small
abbrev pub WhyNotClaimed : View → ℕ → ℕ → ℕ → PutRefusal → View → Type 0
WhyNotClaimed v room want least not_put.Closed w = AtSomeMoment v w (λ o. o.shut ≡ true)
WhyNotClaimed v room want least not_put.Spent w =
    AtSomeMoment v w (λ o. (o.shut ≡ false) × (POSITIONS ≤ claimed o + want))
WhyNotClaimed v room want least (not_put.Full head free) w = (head + want < POSITIONS) × (free + room < head + least)
    × AtTwoMoments v w (λ o later. IsOpenAt o head × (head ≤ claimed later) × IsGivenBackTo later free)
WhyNotClaimed v room want least (not_put.Lost head) w =
    AtTwoMoments v w (λ o later. (claimed o < claimed later) × IsOpenAt later head)
    ⊎ (AtSomeMoment v w (λ o. IsOpenAt o head)
    × ChangedByOthers v w (λ o later. (o.freed < later.freed) × (later.freed + room < head + least)))
WhyNotClaimed v room want least refusal w = ⊥

-- the meaning of a refused put of `count` items
abbrev pub WhyNotPut : View → ℕ → ℕ → PutRefusal → View → Type 0
WhyNotPut v room count not_put.NoItems w = (count ≡ 0) × (w ≡ v)
WhyNotPut v room count not_put.TooLong w = (room < count) × (w ≡ v)
WhyNotPut v room count refusal w = Fits room count × WhyNotClaimed v room count count refusal w

-- the meaning of a refused put of as many of `count` items as there is room for: not even one was put
abbrev pub WhyNotPutSome : View → ℕ → ℕ → PutRefusal → View → Type 0
WhyNotPutSome v room count not_put.NoItems w = (count ≡ 0) × (w ≡ v)
WhyNotPutSome v room count refusal w = (0 < count) × WhyNotClaimed v room (min count room) 1 refusal w

-- TAKINGS

-- At a moment of the call these items were the first ones left, and a batch ended after them. The end took them then:
-- its record has this one taking more, and nothing else
abbrev pub WereFirst : View → List ℕ → View → Type 0
WereFirst v items w = AtSomeMoment v w (λ o. AreFirst o items × (w.own ≡ with_line v.own o (length items)))

-- No batch more could be taken after the `count` items of the taking. They filled the buffer of `most` items, or the
-- queue's `room`. Or at a moment at which the tail was already that of the taking, no batch after them fitted
abbrev pub TookAllThatFit : View → ℕ → ℕ → ℕ → View → Type 0
TookAllThatFit v room most count w = (count ≡ min most room) ⊎ AtTwoMoments v w (λ o later. (o.taken ≡ later.taken)
    × NoneFits o (later.taken + count) (later.taken + min most room) × (w.own ≡ with_line v.own later count))

-- the end took `count` items at a moment at which the queue was o: its record has this taking more
abbrev pub TookThen : View → ℕ → BatchState → View → Type 0
TookThen v count o w = w.own.takes ≡ v.own.takes ++ taking (positions_of o) count ∷ []

-- At a moment of the call these items were the first ones left, and a batch ended after them, or was parted there. The
-- end took them then
abbrev pub WereSome : View → List ℕ → View → Type 0
WereSome v items w = AtSomeMoment v w (λ o. AreSome o items × TookThen v (length items) o w)

-- No item more could be taken after the `count` items of the taking. They filled the buffer of `most` items, or the
-- queue's `room`. Or at a moment at which the tail was already that of the taking, one of the items up to the next one
-- was not published
abbrev pub TookAllPublished : View → ℕ → ℕ → ℕ → View → Type 0
TookAllPublished v room most count w = (count ≡ min most room) ⊎ AtTwoMoments v w (λ o later.
    (o.taken ≡ later.taken) × LacksUpTo o (later.taken + count) × TookThen v count later w)

-- the end parted a batch only if the `count` items filled the buffer of `most` items, or the queue's `room`
abbrev pub PartsOnlyIfFull : View → ℕ → ℕ → ℕ → View → Type 0
PartsOnlyIfFull v room most count w = (times_parted w ≡ times_parted v) ⊎ (count ≡ min most room)

-- the meaning of a refused taking into a buffer of `most` items
abbrev pub WhyNotTaken : View → ℕ → TakeRefusal → View → Type 0
WhyNotTaken v most (not_taken.Empty at) w = AtSomeMoment v w (λ o. (o.taken ≡ at) × (phase_at o at ≡ 0))
    × AtSomeMoment v w (λ o. o.shut ≡ true → o.taken < claimed o)
WhyNotTaken v most (not_taken.ShortBuffer at count) w = (most < count)
    × AtSomeMoment v w (λ o. (o.taken ≡ at) × IsStop o at × IsRest o.batches at (at + count) × (phase_at o at ≡ 1))
WhyNotTaken v most (not_taken.Lost tail) w = AtTwoMoments v w (λ o later. (o.taken < later.taken)
    × (later.taken ≡ tail))
WhyNotTaken v most not_taken.Closed w = AtSomeMoment v w (λ o. (o.shut ≡ true) × (o.taken ≡ claimed o))

-- SHUTTING AND LOOKING

-- at a moment of the call the queue was open exactly if `was_open`, which the end counts; and then the queue is shut
abbrev pub HasShut : View → Bool → View → Type 0
HasShut v was_open w = AtSomeMoment v w (λ o. o.shut ≡ not was_open) × (w.seen.object.shut ≡ true)
    × (w.own.shuts ≡ v.own.shuts + (if was_open then 1 else 0))

-- the head at a moment of the call is `count` positions past the tail at an earlier moment
abbrev pub IsHeadMinusTail : View → ℕ → View → Type 0
IsHeadMinusTail v count w = AtTwoMoments v w (λ o later. o.taken + count ≡ claimed later)

-- The tail is that of a moment of the call, the head and the shut mark are those of a later moment. `published` is as
-- far as it can be: by all places; or nothing was published there at a moment, or the tail had already moved on
abbrev pub LookedAt : View → ℕ → QueueLook → View → Type 0
LookedAt v room look w = AtTwoMoments v w (λ o later. (o.taken ≡ look.tail) × (claimed later ≡ look.head)
    × (later.shut ≡ look.shut))
    × ((look.published ≡ look.tail + room)
    ⊎ AtSomeMoment v w (λ o. (look.tail < o.taken) ⊎ (phase_at o look.published ≡ 0)))

-- A CLIENT'S PROTOCOL

-- The protocol allows the end to put this batch, at whichever position it may begin. No other end steps between the
-- steps of an end with the whole share, so the batch of such an end begins at the head that the end has seen
abbrev pub MayPut : Condition → View → List ℕ → Type 0
MayPut allows v items = (start : ℕ) → claimed v.seen.object ≤ start
    → (IsWhole v.member.share → start ≡ claimed v.seen.object)
    → allows 0 (placed_lines v.own.runs ++ (start, items) ∷ []) (placed_lines v.own.takes)

-- the protocol allows the end to put the first of these items as a batch: at least `least` and at most `most` of them
abbrev pub MayPutFrom : Condition → View → ℕ → ℕ → List ℕ → Type 0
MayPutFrom allows v least most items = (n : ℕ) → least ≤ n → n ≤ most → MayPut allows v (take n items)

-- the protocol allows the end to put each front of these items that a queue of `room` places can have as a batch
abbrev pub MayPutSome : Condition → View → ℕ → List ℕ → Type 0
MayPutSome allows v room items = MayPutFrom allows v 1 (min (length items) room) items

-- each of these items is in a batch that an end put, and the protocol allows what this end put and took
abbrev pub ArePut : Condition → List ℕ → Type 0
ArePut allows items = (i item : ℕ) → get_elem? items i ≡ some item → WasPut allows 0 item

-- A state of the queue's table while the end's view is this one, no earlier than what the end sees: it shows a lawful
-- queue, and the protocol allows what each end put and took
pub record EachEndKeeps (allows : Condition) (v : View) : Type 0 where
  pub key : Shape
  pub state : State ℕ View
  pub shows : ShowsQueue key state
  pub number : ℕ
  pub here : get_elem? state.views number ≡ some v
  pub later : Grows v.seen.object shows.now.object
  pub keeps : (j : ℕ) (u : View) → get_elem? state.views j ≡ some u → KeepsTo allows u
