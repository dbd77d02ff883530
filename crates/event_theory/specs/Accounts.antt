-- The effects of the events of a schedule, counted by the events and the states that they found.
use Rattle.std.specs.Prelude.{◌≡◌, ℕ, ◌+◌, ◌==◌, Bool, false, not, ◌&&◌, if◌then◌else◌, List, [], ◌∷◌, map, filter}
use Rattle.std.specs.Prelude.{flat_map, count_by, Option, Some, None, Result, Ok, Err}
use Rattle.std.specs.List.{slice_get, range_with_len}
use Rattle.std.specs.Result.{result_unwrap_or}
use Rattle.event_theory.specs.Elements.{Thread}
use Rattle.event_theory.specs.Meters.{standing}
use Rattle.event_theory.specs.States.{State, step}
use Rattle.event_theory.specs.declared.alarm.Alarm.{Alarm}
use Rattle.event_theory.specs.declared.event.Event.{Event}
use Rattle.event_theory.specs.declared.event.Event.TheVariants as events
use Rattle.event_theory.specs.declared.refusal.Refusal.{Refusal}

-- each event of a schedule with the state that it found
abbrev pub moves : State → List Event → List (Event × State)
moves s [] = []
moves s (event ∷ events) = (event, s) ∷ moves (result_unwrap_or (step event s) s) events

abbrev pub pending_in : ℕ → Option Thread → Bool
pending_in number None = false
pending_in number (Some thread) = thread.pending number

abbrev pub is_pending : ℕ → ℕ → State → Bool
is_pending element number s = pending_in number (slice_get s.elements.threads element)

abbrev pub done_in : Option Thread → ℕ
done_in None = 0
done_in (Some thread) = thread.done

abbrev pub done_of : ℕ → State → ℕ
done_of element s = done_in (slice_get s.elements.threads element)

abbrev pub is_signal : ℕ → ℕ → Event → Bool
is_signal element number (events.Signal call e n) = e == element && n == number
is_signal element number event = false

abbrev pub is_deliver : ℕ → Event → Bool
is_deliver element (events.Deliver call e) = e == element
is_deliver element event = false

abbrev pub is_done : ℕ → Event → Bool
is_done element (events.Done call e) = e == element
is_done element event = false

-- the move made the signal of the element pending, or delivered it
abbrev pub made_pending : ℕ → ℕ → Event × State → Bool
made_pending element number move = is_signal element number move.0 && not (is_pending element number move.1)

abbrev pub delivered : ℕ → ℕ → Event × State → Bool
delivered element number move = is_deliver element move.0 && is_pending element number move.1

-- the numbers that the element's done events gave
abbrev pub done_numbers : ℕ → List (Event × State) → List ℕ
done_numbers element taken = map (λ move. done_of element move.1 + 1) (filter (λ move. is_done element move.0) taken)

abbrev pub one_alarm : Result Alarm Refusal → List Alarm
one_alarm (Ok alarm) = alarm ∷ []
one_alarm (Err refusal) = []

-- the alarm that an event set, fired or cancelled, if it did so in the state that it found
abbrev pub set_by : Event → List Alarm
set_by (events.Set call due e n) = record { due = due; element = e; signal = n } ∷ []
set_by event = []

abbrev pub fired_by : Event → State → List Alarm
fired_by (events.Fire call slot) s = one_alarm (standing slot s.meters)
fired_by event s = []

abbrev pub cancelled_by : Event → State → List Alarm
cancelled_by (events.Cancel call slot) s = one_alarm (standing slot s.meters)
cancelled_by event s = []

-- By the schedule, each signal of each element became pending as often as it was delivered, and once more if it is
-- pending. An element's done events gave 1, 2, .. up to its steps done. The alarms are those of the events, in order
pub record IsAccounted (s : State) (events : List Event) (t : State) : Type 0 where
  pub pending : (element number : ℕ) → count_by (made_pending element number) (moves s events)
      ≡ count_by (delivered element number) (moves s events) + (if is_pending element number t then 1 else 0)
  pub done : (element : ℕ) → done_numbers element (moves s events) ≡ range_with_len 1 (done_of element t)
  pub set : t.meters.set ≡ flat_map (λ move. set_by move.0) (moves s events)
  pub fired : t.meters.fired ≡ flat_map (λ move. fired_by move.0 move.1) (moves s events)
  pub cancelled : t.meters.cancelled ≡ flat_map (λ move. cancelled_by move.0 move.1) (moves s events)
