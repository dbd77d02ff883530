-- The promises of a queue's calls to their clients, in the queue's own words: its head and tail, the items left, and
-- its room. Each step of a call found the queue at a moment of the call.
use Rattle.std.specs.Prelude.{◌≡◌, ◌+◌, ◌-◌, ◌<◌, ◌≤◌, ℕ, Bool, true, false, not, if◌then◌else◌, List, [], ◌∷◌}
use Rattle.std.specs.Prelude.{◌++◌, length, map, take}
use mathlib.Core.Option.{some}
use lib.ListN.{get_elem?}
use Rattle.table_theory.specs.declared.positions.TheConstants.{POSITIONS}
use Rattle.table_theory.specs.Moments.{AtSomeMoment, AtTwoMoments}
use Rattle.table_theory.specs.Protocols.{Condition, WasPut, placed_lines}
use Rattle.table_theory.specs.Sharing.{IsWhole}
use Rattle.table_theory.specs.declared.queues.Positions.{Positions}
use Rattle.table_theory.specs.Listing.{ViewsShow}
use Rattle.table_theory.specs.Positioned.{Grows, head_of, tail_of, item_at, stage_at, left_of}
use Rattle.claim_queue.specs.Answers.{Fits}
use Rattle.claim_queue.specs.declared.claim.ClaimRefusal.{ClaimRefusal}
use Rattle.claim_queue.specs.declared.claim.ClaimRefusal.TheVariants as not_claimed
use Rattle.claim_queue.specs.declared.look.QueueLook.{QueueLook}
use Rattle.claim_queue.specs.declared.take.TakeRefusal.{TakeRefusal}
use Rattle.claim_queue.specs.declared.take.TakeRefusal.TheVariants as not_taken
use Rattle.claim_queue.specs.Own.{View, part_of}
use Rattle.claim_queue.specs.Rules.{KeepsTo}
use Rattle.claim_queue.specs.Walks.{AreRaised}

-- The position `start` could be claimed for `count` items: at a moment of the call the queue was open, `start` was its
-- head, and there was room for all of them
abbrev pub HadRoomAt : View → ℕ → ℕ → ℕ → View → Type 0
HadRoomAt v room start count w =
    AtSomeMoment v w (λ q. (q.shut ≡ false) × (head_of q ≡ start) × (length (left_of q) + count ≤ room))

-- The meaning of a refused claim of `count` items. Closed: the queue was shut. Spent: too few positions were left.
-- Full: the queue was open and had no room for so many items. Lost: the head moved on, and the queue was still open
abbrev pub WhyNotClaimed : View → ℕ → ℕ → ClaimRefusal → View → Type 0
WhyNotClaimed v room count not_claimed.NoItems w = (count ≡ 0) × (w ≡ v)
WhyNotClaimed v room count not_claimed.TooLong w = (room < count) × (w ≡ v)
WhyNotClaimed v room count not_claimed.Closed w = Fits room count × AtSomeMoment v w (λ q. q.shut ≡ true)
WhyNotClaimed v room count not_claimed.Spent w = Fits room count
    × AtSomeMoment v w (λ q. (q.shut ≡ false) × (POSITIONS ≤ head_of q + count))
WhyNotClaimed v room count (not_claimed.Full head tail) w = Fits room count
    × (head + count < POSITIONS) × (tail + room < head + count)
    × AtTwoMoments v w (λ q later. (q.shut ≡ false) × (head_of q ≡ head) × (room < length (left_of q) + count)
    × (tail_of later ≡ tail))
WhyNotClaimed v room count (not_claimed.Lost head) w = Fits room count × AtTwoMoments v w (λ q later.
    (head_of q < head_of later) × (head_of later ≡ head) × (later.shut ≡ false))

-- the meaning of a refused put of `count` items, which is never refused because another end claimed first
abbrev pub WhyNotPut : View → ℕ → ℕ → ClaimRefusal → View → Type 0
WhyNotPut v room count (not_claimed.Lost head) w = ⊥
WhyNotPut v room count refusal w = WhyNotClaimed v room count refusal w

-- the item was raised at this position: at a moment of the call it was claimed there and not raised, and then it is
abbrev pub HasRaisedItem : View → ℕ → ℕ → View → Type 0
HasRaisedItem v position item w = AtSomeMoment v w (λ q. (q.first ≤ position) × (position < head_of q)
    × (item_at q (position - q.first) ≡ item) × (stage_at q (position - q.first) < 2))
    × (2 ≤ stage_at w.seen.object (position - w.seen.object.first))

-- at a moment of the call these items were the first ones left, and each of them was raised
abbrev pub WereFirst : View → List ℕ → View → Type 0
WereFirst v items w = AtSomeMoment v w (λ q. (take (length items) (left_of q) ≡ items)
    × AreRaised q (tail_of q) (length items))

-- The meaning of a refused taking, for which items with the property Few are too few. Empty: `at` was the first
-- position not raised, and the items left before it were too few; and after that the queue was open or had something
-- left. Lost: the tail moved on. Closed: the queue was shut, and nothing was left
abbrev pub WhyNotTaken : (List ℕ → Type 0) → View → TakeRefusal → View → Type 0
WhyNotTaken Few v (not_taken.Empty at) w = AtTwoMoments v w (λ q later. (tail_of q ≤ at)
    × Few (take (at - tail_of q) (left_of q)) × AreRaised q (tail_of q) (at - tail_of q)
    × (stage_at q (at - q.first) < 2) × (later.shut ≡ true → 0 < length (left_of later)))
WhyNotTaken Few v (not_taken.Lost tail) w = AtTwoMoments v w (λ q later.
    (tail_of q < tail_of later) × (tail_of later ≡ tail))
WhyNotTaken Few v not_taken.Closed w = AtSomeMoment v w (λ q. (q.shut ≡ true) × (length (left_of q) ≡ 0))

-- the queue was open at a moment of the call exactly if `was_open`, which the end counts, and then it is shut
abbrev pub HasShut : View → Bool → View → Type 0
HasShut v was_open w = AtSomeMoment v w (λ q. q.shut ≡ not was_open) × (w.seen.object.shut ≡ true)
    × (w.own.shuts ≡ v.own.shuts + (if was_open then 1 else 0))

-- the numbers of a look: the tail at a moment of the call, and then the head and the shut mark at one later moment
abbrev pub LookedAt : View → QueueLook → View → Type 0
LookedAt v look w = AtTwoMoments v w (λ q later.
    (tail_of q ≡ look.tail) × (head_of later ≡ look.head) × (later.shut ≡ look.shut))

-- The protocol allows the end to put this line, at whichever position it may begin. No other end steps between the
-- steps of an end with the whole share, so the line of such an end begins at the head that the end has seen
abbrev pub MayPut : Condition → View → List ℕ → Type 0
MayPut allows v items = (start : ℕ) → head_of v.seen.object ≤ start
    → (IsWhole v.member.share → start ≡ head_of v.seen.object)
    → allows v.first.first (placed_lines v.own.runs ++ (start, items) ∷ []) (placed_lines v.own.takes)

-- each of these items is in a line that an end put, and the protocol allows what this end put and took
abbrev pub ArePut : Condition → View → List ℕ → Type 0
ArePut allows v items = (i item : ℕ) → get_elem? items i ≡ some item → WasPut allows v.first.first item

-- A state of the queue, no earlier than the one that the end sees, while the end's view is this one: the views of all
-- ends list it, and the protocol allows what each end put and took
pub record EachEndKeeps (allows : Condition) (v : View) : Type 0 where
  pub queue : Positions
  pub later : Grows v.seen.object queue
  pub views : List View
  pub lists : ViewsShow queue (map part_of views)
  pub number : ℕ
  pub here : get_elem? views number ≡ some v
  pub keeps : (j : ℕ) (u : View) → get_elem? views j ≡ some u → KeepsTo allows u
