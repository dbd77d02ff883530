-- The entries that a call adds to its hand's list, and what the hand has afterwards.
use Rattle.std.specs.Prelude.{◌≡◌, ◌+◌, ◌<◌, ◌==◌, ◌||◌, if◌then◌else◌, ℕ, true, false, List, [], ◌∷◌, ◌++◌, count_by}
use Rattle.event_theory.specs.Accounts.{is_done}
use Rattle.event_theory.specs.declared.event.Event.{Event}
use Rattle.event_theory.specs.declared.event.Event.TheVariants as events
use Rattle.table_theory.specs.Ends.{Begins}
use Rattle.table_theory.specs.Ledgers as ends
use Rattle.table_theory.specs.Ledgers.{ExtendsTrace}
use Rattle.thread_table.specs.declared.layout.TheConstants.{ELEMENTS}
use Rattle.thread_table.specs.declared.rule.MadeEvent.{MadeEvent}
use Rattle.thread_table.specs.Own.{View}
use Rattle.thread_table.specs.Rules.{MayStep, has}
use Rattle.thread_table.specs.Schedules.{Past, elements_after, Grows, ring_name}

-- one step of a hand
abbrev pub Step : Type 0
Step = ends.Step (List Event)

-- the step found this number in this word, and made this event
abbrev pub change : ℕ → ℕ → Past → Event → Step
change word found past event = ends.change word found past (past.object ++ event ∷ [])

-- the state that the last of these steps left, or `past` if there is none
abbrev pub left_by : Past → List Step → Past
left_by past [] = past
left_by past (e ∷ es) = left_by e.next es

-- each step found the events that the step before it left, or more, and the elements had only grown in between
abbrev pub AreInOrder : Past → List Step → Type 0
AreInOrder past [] = Unit {0}
AreInOrder past (e ∷ es) = Begins past.object e.then.object
    × Grows (elements_after past.object) (elements_after e.then.object) × AreInOrder e.next es

-- how many steps of the element these events counted, and how many a hand counted
abbrev pub steps_in : ℕ → List Event → ℕ
steps_in element events = count_by (is_done element) events

abbrev pub steps_by : ℕ → List MadeEvent → ℕ
steps_by element made = count_by (λ m. is_done element m.event) made

-- if the hand had counted its joins, only this hand counted steps of what it may step before and after
abbrev pub IsCalm : View → View → Type 0
IsCalm v w = v.own.fresh ≡ true → (element : ℕ) → element < ELEMENTS → MayStep v element → MayStep w element
    → steps_in element w.seen.object + steps_by element v.own.made
    ≡ steps_in element v.seen.object + steps_by element w.own.made

-- the view `now`, with what w has seen and lists
abbrev pub seen_as : View → View → View
seen_as now w = record w { own = record now.own { fresh = true }; member = now.member }

-- These entries were added, and then the hand has what the view `now` has. The hand has seen what the last entry left,
-- which is no earlier than what it had seen before.
pub record PerformsEvents (v : View) (entries : List Step) (now w : View) : Type 0 where
  pub adds : ExtendsTrace v entries w
  pub has : w ≡ seen_as now w
  pub seen : w.seen ≡ left_by v.seen entries
  pub later : Begins v.seen.object w.seen.object
  pub calm : IsCalm v w

-- the view after the hand made this event, which counts no step and delivers no signal
abbrev pub with_event : View → Event → View
with_event v event = record v {
  own = record v.own {
    made = v.own.made ++ record { event = event; number = 0; signals = [] } ∷ [];
  };
}

-- the hand holds the element, which it did not hold before, and all that it held before
abbrev pub HoldsMore : ℕ → View → View → Type 0
HoldsMore element v w = (has v element ≡ false) × ((e : ℕ) → has w e ≡ (has v e || e == element))

-- the hand holds what it held, except this element
abbrev pub HoldsLess : ℕ → View → View → Type 0
HoldsLess element v w = (e : ℕ) → has w e ≡ (if e == element then false else has v e)

-- the event that takes the oldest element of the queue
abbrev pub take_event : ℕ → ℕ → Event
take_event call ring = events.Take call (ring_name ring) 1

-- the event that claims a place of the queue for the element
abbrev pub claim_event : ℕ → ℕ → ℕ → Event
claim_event call ring element = events.Claim call (ring_name ring) (element ∷ [])
