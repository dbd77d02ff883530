-- The events that led to a state, and one more.
use Rattle.quaject_core.proofs.Common.{◌≡◌, ℕ, List, [], ◌++◌, ◌∷◌, sym, subst, Result, Ok, Err, Changes, Reaches, State, first_state, step, Refusal, reaches_more}
use Rattle.std.proofs.Math.Logic.{∥∥₁_map}
use Rattle.event_theory.specs.declared.event.Event.{Event}
use Rattle.event_theory.proofs.Keeping.Accounts.{account_law}
use Rattle.quaject_core.specs.Histories.{HasHistory}

history_of : (elements : ℕ) (events : List Event) (s : State) → Reaches (first_state elements) events s → HasHistory s
history_of elements events s there = record {
  elements = elements;
  events = events;
  reached = there;
  accounted = account_law elements events s there;
}

-- a first state came of no event
pub first_history : (elements : ℕ) (s : State) → s ≡ first_state elements → ∥ HasHistory s ∥₁
first_history elements s first = ∣ history_of elements [] s first ∣₁

step_more : (event : Event) (result : Result (Unit {0}) Refusal) (s t : State) → Changes result (step event s) s t → HasHistory s → HasHistory t
step_more event (Ok done) s t change h = history_of h.elements (h.events ++ event ∷ []) t (reaches_more (first_state h.elements) h.events s event t h.reached change)
step_more event (Err refusal) s t change h = subst HasHistory (sym change.0) h

-- what came of events comes of them and of one more, or of them alone where that is refused
pub next_history : (event : Event) (result : Result (Unit {0}) Refusal) (s t : State) → Changes result (step event s) s t → ∥ HasHistory s ∥₁ → ∥ HasHistory t ∥₁
next_history event result s t change past = ∥∥₁_map past (step_more event result s t change)
