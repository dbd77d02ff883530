-- The sum of the events in a hand's list: the steps counted, the signals raised and delivered, the elements added to
-- the free ones, and the takings of free elements.
use Rattle.std.specs.Prelude.{◌≡◌, ◌==◌, ◌&&◌, ℕ, zero, suc, Bool, List, [], ◌∷◌, ◌++◌, map, slice_index_or}
use Rattle.std.specs.Prelude.{flat_map}
use Rattle.std.specs.List.{list_any}
use Rattle.event_theory.specs.declared.alarm.Alarm.{Alarm}
use Rattle.event_theory.specs.declared.event.Event.{Event}
use Rattle.event_theory.specs.declared.event.Event.TheVariants as events
use Rattle.event_theory.specs.declared.names.QueueName.TheVariants as names
use Rattle.thread_table.specs.declared.rule.MadeEvent.{MadeEvent}
use Rattle.thread_table.specs.Own.{View}
use Rattle.thread_table.specs.Answers.{signals_in}
use Rattle.thread_table.specs.Retiring.{taking_by}

-- the step that an event counts: its element, and that element's number of steps done before
abbrev pub step_by : Event → ℕ → List (ℕ × ℕ)
step_by (events.Done call element) number = (element, number) ∷ []
step_by event number = []

-- the signal that an event raises: its element and its number
abbrev pub signal_by : Event → List (ℕ × ℕ)
signal_by (events.Signal call element signal) = (element, signal) ∷ []
signal_by event = []

-- the signals that an event delivers: their element and their numbers
abbrev pub delivery_by : Event → List ℕ → List (ℕ × List ℕ)
delivery_by (events.Deliver call element) signals = (element, signals) ∷ []
delivery_by event signals = []

-- the element that an event adds to the free ones, with its number of steps done
abbrev pub retiring_by : Event → ℕ → List (ℕ × ℕ)
retiring_by (events.Claim call names.Free items) number = (slice_index_or items 0 0, number) ∷ []
retiring_by event number = []

-- The steps counted, the signals raised, the signals delivered, the elements retired, and the takings of free elements,
-- each in the order of events
pub record Tally : Type 0 where
  pub done : List (ℕ × ℕ)
  pub signalled : List (ℕ × ℕ)
  pub delivered : List (ℕ × List ℕ)
  pub retired : List (ℕ × ℕ)
  pub taken : List ℕ

-- the tally of a list of events
abbrev pub tally : List MadeEvent → Tally
tally made = record {
  done = flat_map (λ (m : MadeEvent). step_by m.event m.number) made;
  signalled = flat_map (λ (m : MadeEvent). signal_by m.event) made;
  delivered = flat_map (λ (m : MadeEvent). delivery_by m.event m.signals) made;
  retired = flat_map (λ (m : MadeEvent). retiring_by m.event m.number) made;
  taken = flat_map (λ (m : MadeEvent). taking_by m.event) made;
}

-- the tally of no events
abbrev pub no_events : Tally
no_events = record { done = []; signalled = []; delivered = []; retired = []; taken = [] }

-- one tally followed by another
abbrev pub followed_by : Tally → Tally → Tally
followed_by t more = record {
  done = t.done ++ more.done;
  signalled = t.signalled ++ more.signalled;
  delivered = t.delivered ++ more.delivered;
  retired = t.retired ++ more.retired;
  taken = t.taken ++ more.taken;
}

abbrev pub one_step : ℕ → ℕ → Tally
one_step element number = record no_events { done = (element, number) ∷ [] }

abbrev pub one_signal : ℕ → ℕ → Tally
one_signal element signal = record no_events { signalled = (element, signal) ∷ [] }

abbrev pub one_retired : ℕ → ℕ → Tally
one_retired element number = record no_events { retired = (element, number) ∷ [] }

-- the delivery of a mask's signals to an element; no event if the mask is empty
abbrev pub delivery : ℕ → ℕ → List (ℕ × List ℕ)
delivery element zero = []
delivery element (suc mask) = (element, signals_in (suc mask)) ∷ []

abbrev pub one_delivery : ℕ → ℕ → Tally
one_delivery element mask = record no_events { delivered = delivery element mask }

-- the signals of these alarms
abbrev pub signals_for : List Alarm → Tally
signals_for alarms = record no_events { signalled = map (λ (alarm : Alarm). (alarm.element, alarm.signal)) alarms }

-- the tally of the hand's list grew by this tally
abbrev pub AddsToTally : Tally → View → View → Type 0
AddsToTally more v w = tally w.own.made ≡ followed_by (tally v.own.made) more

-- whether a signal of an element is among those delivered
abbrev pub is_delivered : List (ℕ × List ℕ) → ℕ → ℕ → Bool
is_delivered deliveries element signal =
    list_any (λ (d : ℕ × List ℕ). d.0 == element && list_any (λ s. s == signal) d.1) deliveries
