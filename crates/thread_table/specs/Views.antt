-- The view of a hand after each of its events.
use Rattle.std.specs.Prelude.{ℕ, Bool, true, false, if◌then◌else◌, slice_set, slice_index_or, Option, Some, None, List}
use Rattle.std.specs.Prelude.{◌≡◌, ◌-◌, ◌≤◌, [], ◌∷◌, ◌++◌, length}
use Rattle.event_theory.specs.Elements.{Elements}
use Rattle.event_theory.specs.declared.event.Event.{Event}
use Rattle.event_theory.specs.declared.event.Event.TheVariants as events
use Rattle.event_theory.specs.declared.names.QueueName.{QueueName}
use Rattle.event_theory.specs.declared.names.QueueName.TheVariants as names
use Rattle.thread_table.specs.Own.{View}
use Rattle.thread_table.specs.Layout.{free_ring, ready_ring, wait_ring}
use Rattle.thread_table.specs.Makers.{made_in}
use Rattle.thread_table.specs.Schedules.{state_after, elements_after, ring_at, thread_at, element_at}
use Rattle.thread_table.specs.declared.rule.HandState.{HandState}
use Rattle.thread_table.specs.declared.rule.Claimed.{Claimed}
use Rattle.thread_table.specs.declared.rule.Counted.{Counted}

-- the hand has `own` then, and no number of steps that it has just found
abbrev pub having : View → HandState → View
having v own = record v { own = record own { counted = None } }

-- the view after a step that changed nothing else for the hand
abbrev pub quiet : View → View
quiet v = having v v.own

-- the view after the hand got the element, or let it go
abbrev pub with_held : View → ℕ → Bool → View
with_held v element is = having v (record v.own { held = slice_set v.own.held element is })

abbrev pub with_on : View → ℕ → ℕ → View
with_on v p element = having v (record v.own {
  held = slice_set v.own.held element false;
  on = slice_set v.own.on p (Some element);
})

abbrev pub with_off : View → ℕ → ℕ → View
with_off v p element = having v (record v.own {
  held = slice_set v.own.held element true;
  on = slice_set v.own.on p None;
})

-- the view after a start: an element that was parked is held
abbrev pub with_start : View → ℕ → Bool → View
with_start v element parked = having v (record v.own {
  held = if parked then slice_set v.own.held element true else v.own.held;
})

abbrev pub count_of : ℕ → ℕ → Counted
count_of element done = record { element = element; done = done }

-- the view after the hand found this number of steps
abbrev pub having_found : View → Counted → View
having_found v count = record v { own = record v.own { counted = Some count } }

-- the number of an element queue
abbrev pub ring_of : QueueName → ℕ
ring_of names.Free = free_ring
ring_of (names.Wait wait) = wait_ring wait
ring_of queue = ready_ring

-- the claim of this run of an element queue for an element
abbrev pub claim_of : ℕ → ℕ → ℕ → Claimed
claim_of ring run element = record { ring = ring; run = run; element = element }

abbrev pub next_claim : Elements → ℕ → ℕ → Option Claimed
next_claim e ring element = Some (claim_of ring (length (ring_at e ring).history) element)

-- the hand has claimed this position of an element queue for the element
abbrev pub HasClaimed : View → ℕ → ℕ → ℕ → Type 0
HasClaimed v ring position element =
    (v.own.claimed ≡ Some (claim_of ring (position - v.own.first) element)) × (v.own.first ≤ position)

-- the held elements, with the one that was taken off a processor, if there was one
abbrev pub with_taken_off : Option ℕ → List Bool → List Bool
with_taken_off None held = held
with_taken_off (Some element) held = slice_set held element true

-- the elements that the hand of an event holds after it, if the event found these elements
abbrev pub held_after : Event → HandState → Elements → List Bool
held_after (events.Claim call queue items) own e = slice_set own.held (slice_index_or items 0 0) false
held_after (events.WaitAt call wait element ticket) own e = slice_set own.held element false
held_after (events.Take call queue count) own e =
    slice_set own.held (element_at (ring_at e (ring_of queue)) (ring_at e (ring_of queue)).taken) true
held_after (events.On call p element) own e = slice_set own.held element false
held_after (events.Off call p) own e = with_taken_off (slice_index_or own.on p None) own.held
held_after (events.Park call element) own e = slice_set own.held element false
held_after (events.Start call element) own e =
    if (thread_at e element).parked then slice_set own.held element true else own.held
held_after event own e = own.held

-- the elements that the hand of an event has on its processors after it
abbrev pub on_after : Event → HandState → List (Option ℕ)
on_after (events.On call p element) own = slice_set own.on p (Some element)
on_after (events.Off call p) own = slice_set own.on p None
on_after event own = own.on

-- the run that the hand of an event has claimed and not raised after it
abbrev pub claimed_after : Event → HandState → Elements → Option Claimed
claimed_after (events.Claim call queue items) own e = next_claim e (ring_of queue) (slice_index_or items 0 0)
claimed_after (events.WaitAt call wait element ticket) own e = next_claim e (wait_ring wait) element
claimed_after (events.Raise call queue run index) own e = None
claimed_after event own e = own.claimed

-- the view after an event, without the event in its list
abbrev pub left_by_event : Event → Elements → View → View
left_by_event event e v = having v (record v.own {
  held = held_after event v.own e;
  on = on_after event v.own;
  claimed = claimed_after event v.own e;
})

-- the view after an event that was made at this schedule, with the event in its list
abbrev pub after_event : Event → List Event → View → View
after_event event past v = record v {
  own = record (left_by_event event (elements_after past) v).own {
    made = v.own.made ++ made_in event (state_after past) ∷ [];
  };
}
