-- The rule: there is a schedule whose events the core allowed in their turn, and the words show the state after it.
use Rattle.std.specs.Prelude.{◌≡◌, ◌⊎◌, ℕ, ◌<◌, ◌≤◌, Bool, true, false, ◌||◌, List, [], ◌∷◌, map, length}
use Rattle.std.specs.Prelude.{slice_index_or, Option, Some, None, option_map}
use Rattle.std.specs.List.{slice_get, list_any, repeat}
use mathlib.Core.Option.{some}
use lib.ListN.{get_elem?}
use Rattle.table_theory.specs.Ends.{Begins}
use Rattle.table_theory.specs.Filing.{entry_of}
use Rattle.table_theory.specs.Ledgers.{first_of, EndsStand}
use Rattle.table_theory.specs.Orders.{AreOrdered}
use Rattle.table_theory.specs.Sharing.{IsWhole}
use Rattle.event_theory.specs.Elements.{Elements, hold, holds, is_put}
use Rattle.event_theory.specs.declared.event.Event.{Event}
use Rattle.atomic_table.specs.Table.{State}
use Rattle.thread_table.specs.declared.rule.Shape.{Shape}
use Rattle.thread_table.specs.Own.{View}
use Rattle.thread_table.specs.declared.rule.Claimed.{Claimed}
use Rattle.thread_table.specs.declared.rule.Counted.{Counted}
use Rattle.thread_table.specs.declared.rule.HandState.{HandState}
use Rattle.thread_table.specs.Schedules.{Past, Course, elements_after, IsAllowed, Grows, ring_at, thread_at, element_at}
use Rattle.thread_table.specs.Views.{claim_of}
use Rattle.thread_table.specs.Joins.{AreJoins, AreJoined}
use Rattle.thread_table.specs.Makers.{AreMade, made_of}
use Rattle.thread_table.specs.declared.layout.TheConstants.{PROCESSORS, ELEMENTS, RINGS}
use Rattle.thread_table.specs.Layout.{ends_word}
use Rattle.thread_table.specs.Shown.{WordsShow}
use Rattle.thread_table.specs.Telling.{of_hands}

-- no element is held
abbrev pub nothing_held : List Bool
nothing_held = repeat ELEMENTS (false ∷ [])

abbrev pub no_processors : List Bool
no_processors = repeat PROCESSORS (false ∷ [])

abbrev pub nothing_on : List (Option ℕ)
nothing_on = repeat PROCESSORS (None ∷ [])

-- the contents of a hand that has nothing, in a table with this first position
abbrev pub nothing_of : ℕ → HandState
nothing_of first = record {
  first = first;
  held = nothing_held;
  serves = no_processors;
  on = nothing_on;
  claimed = None;
  counted = None;
  made = [];
  fresh = false;
  doubled = false;
}

-- the contents of a new hand, which serves the processors of the mask
abbrev pub serving : ℕ → List Bool → HandState
serving first mask = record (nothing_of first) { serves = mask; fresh = true }

-- the hand holds the element
abbrev pub has : View → ℕ → Bool
has v element = slice_index_or v.own.held element false

-- the hand serves the processor
abbrev pub serves : View → ℕ → Bool
serves v processor = slice_index_or v.own.serves processor false

-- the element that the hand has on the processor
abbrev pub running : View → ℕ → Option ℕ
running v processor = slice_index_or v.own.on processor None

-- the call holds the element, or has it on a processor
abbrev pub may_step : ℕ → ℕ → Elements → Bool
may_step call element e = holds call element e || list_any (is_put call element) e.processors

-- a run of the call that isn't raised
pub record IsClaimed (call : ℕ) (c : Claimed) (e : Elements) : Type 0 where
  pub below : c.ring < RINGS
  pub known : c.element < ELEMENTS
  pub run : slice_get (ring_at e c.ring).history c.run ≡ Some (record { call = call; items = c.element ∷ [] })
  pub low : (ring_at e c.ring).raised c.run 0 ≡ false

-- the call may count a step of the element, which has done so many steps
pub record IsCounted (call : ℕ) (c : Counted) (e : Elements) : Type 0 where
  pub known : c.element < ELEMENTS
  pub may : may_step call c.element e ≡ true
  pub done : (thread_at e c.element).done ≡ c.done

-- the hand has what its call has in these elements: what it holds and has on its processors, its claim and its count
pub record HandIs (call : ℕ) (v : View) (e : Elements) : Type 0 where
  pub held_long : length v.own.held ≡ ELEMENTS
  pub serves_long : length v.own.serves ≡ PROCESSORS
  pub on_long : length v.own.on ≡ PROCESSORS
  pub held : (element : ℕ) → holds call element e ≡ has v element
  pub on : (p : ℕ) → serves v p ≡ true → slice_get e.processors p ≡ Some (option_map (hold call) (running v p))
  pub off : (p : ℕ) → serves v p ≡ false → running v p ≡ None
  pub claimed : (c : Claimed) → v.own.claimed ≡ Some c → IsClaimed call c e
  pub counted : (c : Counted) → v.own.counted ≡ Some c → IsCounted call c e

-- if the hand has made a step, its view agrees with the elements as the hand has seen them
abbrev pub HasStood : ℕ → View → Type 0
HasStood call v = (v.steps ≡ [] → ⊥) → HandIs call v (elements_after v.seen.object)

-- the events that the hand has seen are a beginning of these, and the elements have grown since
pub record Seen (v : View) (events : List Event) : Type 0 where
  pub schedule : Begins v.seen.object events
  pub grows : Grows (elements_after v.seen.object) (elements_after events)

-- the run is claimed and not raised
abbrev pub IsOpen : ℕ → ℕ → Elements → Type 0
IsOpen ring run e =
    (run < length (ring_at e ring).history) × ((ring_at e ring).raised run 0 ≡ false)

-- the hand exists, and has counted each join that it made
abbrev pub IsActive : View → Type 0
IsActive v = (1 ≤ v.member.ends) × (v.own.fresh ≡ true)

-- the hand holds the element, or has it on a processor that it serves
abbrev pub MayStep : View → ℕ → Type 0
MayStep v element = (has v element ≡ true) ⊎ ((p : ℕ) × (serves v p ≡ true) × (running v p ≡ Some element))

-- how many steps the element had done after these events
abbrev pub done_at : List Event → ℕ → ℕ
done_at events element = (thread_at (elements_after events) element).done

-- if the hand has counted its joins, it has seen each step done of the elements that it may step
abbrev pub IsSteady : View → List Event → Type 0
IsSteady v events = v.own.fresh ≡ true → (element : ℕ) → element < ELEMENTS → MayStep v element
    → done_at events element ≡ done_at v.seen.object element

-- if the hand has the whole and has counted its joins, it has seen all these steps
abbrev pub IsNewest : View → Course → Type 0
IsNewest v past = IsWhole v.member.share → v.own.fresh ≡ true → past ≡ v.course

-- the schedule, and the number of hands that the first word shows
abbrev pub now_of : List Event → List ℕ → Past
now_of events words = record { ends = slice_index_or words ends_word 0; object = events }

-- The core allowed each event in its turn, and the words show the elements after them, which the hands have. No two
-- hands serve one processor. Each run that isn't raised is the claim of a hand. Only the calls of hands hold elements.
-- The hands list the events. No hand took in one with which it shared an element or a processor. Each hand that no
-- longer exists was joined once.
pub record Rule (key : Shape) (s : State Unit View) : Type 0 where
  pub events : List Event
  pub allowed : IsAllowed events
  pub shows : WordsShow key.first (elements_after events) s.words
  pub first : (j : ℕ) (v : View) → get_elem? s.views j ≡ some v → v.own.first ≡ key.first
  pub seen : (j : ℕ) (v : View) → get_elem? s.views j ≡ some v → Seen v events
  pub hands : (j : ℕ) (v : View) → get_elem? s.views j ≡ some v → HandIs j v (elements_after events)
  pub sole : (i j p : ℕ) (u v : View) → get_elem? s.views i ≡ some u → get_elem? s.views j ≡ some v
      → serves u p ≡ true → serves v p ≡ true → i ≡ j
  pub owned : (ring run : ℕ) → ring < RINGS → IsOpen ring run (elements_after events) → (j : ℕ) × (v : View)
      × (get_elem? s.views j ≡ some v)
      × (v.own.claimed ≡ Some (claim_of ring run (element_at (ring_at (elements_after events) ring) run)))
  pub strange : (call element : ℕ) → length s.views ≤ call → holds call element (elements_after events) ≡ false
  pub made : AreMade events (map made_of s.views)
  pub steady : (j : ℕ) (v : View) → get_elem? s.views j ≡ some v → IsSteady v events
  pub undoubled : (j : ℕ) (v : View) → get_elem? s.views j ≡ some v → v.own.doubled ≡ false
  pub ends : EndsStand (nothing_of key.first) (slice_index_or s.words ends_word 0) s.views
  pub joined : AreJoined events s.views
  -- the steps of the hands and the joins, which the view `joiner` has, lead from no event to these events
  pub joiner : View
  pub are_joins : AreJoins events joiner.steps
  pub order : AreOrdered (of_hands key.first) [] (now_of events s.words) (joiner ∷ s.views)
  pub newest : (j : ℕ) (v : View) → get_elem? s.views j ≡ some v → IsNewest v (map entry_of order.course.course)

-- the view of the first hand of a table
abbrev pub newcomer : Shape → View
newcomer key = first_of (serving key.first (repeat PROCESSORS (true ∷ []))) []
