-- The events of the schedule, by the hands that made them.
use Rattle.std.specs.Prelude.{◌≡◌, ◌<◌, ℕ, Bool, true, false, if◌then◌else◌, slice_index_or, List, [], ◌∷◌, map}
use Rattle.std.specs.List.{filter, range_with_len}
use mathlib.Core.Option.{some}
use lib.ListN.{get_elem?}
use Rattle.event_theory.specs.Accounts.{is_done}
use Rattle.event_theory.specs.Elements.{Elements}
use Rattle.table_theory.specs.Filing.{Owned, entry_of, ListedOnce}
use Rattle.event_theory.specs.declared.event.Event.{Event}
use Rattle.event_theory.specs.declared.event.Event.TheVariants as events
use Rattle.thread_table.specs.declared.rule.MadeEvent.{MadeEvent}
use Rattle.std.specs.Result.{result_unwrap_or}
use Rattle.event_theory.specs.States.{State, step}
use Rattle.thread_table.specs.Own.{View}
use Rattle.thread_table.specs.Schedules.{begun, thread_at}

abbrev pub is_join : Event → Bool
is_join (events.Join call other) = true
is_join event = false

abbrev pub made_of : View → List MadeEvent
made_of v = v.own.made

-- how many steps the element of a done event, a claim or a wait had done before the event; 0 for all other events
abbrev pub number_of : Event → State → ℕ
number_of (events.Done call element) s = (thread_at s.elements element).done
number_of (events.Claim call queue items) s = (thread_at s.elements (slice_index_or items 0 0)).done
number_of (events.WaitAt call wait element ticket) s = (thread_at s.elements element).done
number_of event s = 0

-- the signals that an event delivers: those that it found pending
abbrev pub signals_of : Event → State → List ℕ
signals_of (events.Deliver call element) s = filter (thread_at s.elements element).pending (range_with_len 0 16)
signals_of event s = []

-- the list entry of an event that was made in this state
abbrev pub made_in : Event → State → MadeEvent
made_in event s = record { event = event; number = number_of event s; signals = signals_of event s }

-- the events except the joins, each with the number and the signals that it found
abbrev pub numbered : State → List Event → List MadeEvent
numbered s [] = []
numbered s (event ∷ events) = if is_join event then numbered (result_unwrap_or (step event s) s) events
    else (made_in event s ∷ numbered (result_unwrap_or (step event s) s) events)

-- the lists of the hands together have the events of the schedule except the joins, each once
pub record AreMade (events : List Event) (lists : List (List MadeEvent)) : Type 0 where
  pub log : List (Owned MadeEvent)
  pub listed : ListedOnce log lists
  pub logged : map entry_of log ≡ numbered begun events

-- each step that an element has done is counted by exactly one event of the list
pub record StepsOnce (made : List MadeEvent) (e : Elements) : Type 0 where
  pub once : (i j element : ℕ) (a b : MadeEvent) → get_elem? made i ≡ some a → get_elem? made j ≡ some b
      → is_done element a.event ≡ true → is_done element b.event ≡ true → a.number ≡ b.number → i ≡ j
  pub all : (element number : ℕ) → number < (thread_at e element).done → (i : ℕ) × (a : MadeEvent)
      × (get_elem? made i ≡ some a) × (is_done element a.event ≡ true) × (a.number ≡ number)
