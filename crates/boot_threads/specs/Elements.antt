-- Operations on thread elements before the first turn, as the hand's own list of events records them.
use Rattle.std.specs.Prelude.{◌≡◌, ℕ, ◌+◌, ◌-◌, ◌<◌, ◌≤◌, Bool, true, false, List, [], ◌∷◌}
use Rattle.std.specs.Prelude.{◌++◌, map, length, filter, flat_map}
use Rattle.std.specs.List.{range_with_len}
use Rattle.event_theory.specs.declared.event.Event.{Event}
use Rattle.event_theory.specs.declared.event.Event.TheVariants as events
use Rattle.event_theory.specs.declared.names.QueueName.TheVariants as names
use Rattle.thread_table.specs.declared.rule.MadeEvent.{MadeEvent}
use Rattle.thread_table.specs.Own.{View}
use Rattle.thread_table.specs.Entries.{HoldsLess, claim_event}
use Rattle.thread_table.specs.Keeping.{Keeps}
use Rattle.thread_table.specs.Layout.{ready_ring, free_ring}
use Rattle.thread_table.specs.Retiring.{free_takings}
use Rattle.thread_table.specs.Rules.{has}
use Rattle.thread_table.specs.Schedules.{elements_after, ring_at}
use Rattle.boot_threads.specs.declared.elements.Ring.{Ring}
use Rattle.boot_threads.specs.declared.elements.Ring.TheVariants as rings

-- the element queue of a ring
abbrev pub ring_of : Ring → ℕ
ring_of rings.Ready = ready_ring
ring_of rings.Free = free_ring

-- the event alone, or none if it takes free elements, or raises in the ready ring or in the free ring
abbrev pub move_by : Event → List Event
move_by (events.Take call names.Free count) = []
move_by (events.Raise call names.Ready run item) = []
move_by (events.Raise call names.Free run item) = []
move_by event = event ∷ []

-- the events of a hand that `move_by` keeps, in their order
abbrev pub moves_in : List MadeEvent → List Event
moves_in made = flat_map (λ (m : MadeEvent). move_by m.event) made

-- the claims that put each of these elements into the ring, in the order of the list
abbrev pub claims : ℕ → ℕ → List ℕ → List Event
claims call ring elements = map (claim_event call ring) elements

-- how many takings of free elements there were, by all hands, when the hand last looked
abbrev pub free_taken : View → ℕ
free_taken v = (ring_at (elements_after v.seen.object) free_ring).taken

-- how many takings of free elements are in the hand's own list
abbrev pub own_takings : View → ℕ
own_takings v = length (free_takings v.own.made)

-- how many elements the hand holds
abbrev pub many_held : View → ℕ
many_held v = length (filter (λ (held : Bool). held) v.own.held)

-- The hand moved elements by these events, and otherwise only took free elements. Its processors and its share are as
-- they were. It holds as many elements as it held and took, less one for each of these events
pub record Moved (moves : List Event) (v w : View) : Type 0 where
  pub moves_are : moves_in w.own.made ≡ moves_in v.own.made ++ moves
  pub keeps : Keeps v w
  pub long : length w.own.held ≡ length v.own.held
  pub took : ℕ
  pub own : own_takings w ≡ own_takings v + took
  pub all : free_taken v + took ≤ free_taken w
  pub held : many_held w + length moves ≡ many_held v + took

-- the hand took free elements, and still holds each element that it held
abbrev pub TookFree : View → View → Type 0
TookFree v w = Moved [] v w × ((e : ℕ) → has v e ≡ true → has w e ≡ true)

-- the hand of this number put the element into the ring, and no longer holds it
abbrev pub PutInto : ℕ → ℕ → ℕ → View → View → Type 0
PutInto call ring element v w = Moved (claim_event call ring element ∷ []) v w × HoldsLess element v w

-- the hand holds those of the 64 elements that have this number or a greater one, and no other
pub record HoldsFrom (count : ℕ) (v : View) : Type 0 where
  pub held : (e : ℕ) → count ≤ e → e < 64 → has v e ≡ true
  pub gone : (e : ℕ) → e < count → has v e ≡ false

-- the first `threads` elements are put into the ready ring, and then the others of the 64 into the free ring
abbrev pub placing : ℕ → ℕ → List Event
placing call threads = claims call ready_ring (range_with_len 0 threads)
    ++ claims call free_ring (range_with_len threads (64 - threads))

-- the hand put the first `threads` elements, at most 64, in the ready ring and the rest in the free ring; it holds none
pub record Prepared (call threads : ℕ) (v w : View) : Type 0 where
  pub few : threads ≤ 64
  pub moved : Moved (placing call threads) v w
  pub none : (e : ℕ) → e < 64 → has w e ≡ false
