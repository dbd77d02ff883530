-- The work of an element's turn on a processor, and the queue to which the element goes after it.
use Rattle.std.specs.Prelude.{◌≡◌, ◌<◌, ℕ, Bool, true, false, List, Some, None}
use Rattle.boot_data.specs.declared.boot_plan.BootPlan.{BootPlan}
use Rattle.boot_data.specs.declared.plan.Step.{Step}
use Rattle.event_theory.specs.Marks.{wait_ring}
use Rattle.turn_dispatch.specs.declared.counting.Counted.{Counted}
use Rattle.turn_dispatch.specs.declared.dispatch.Begun.{Begun}
use Rattle.turn_dispatch.specs.Countings.{CountAnswer}
use Rattle.turn_dispatch.specs.Sendings.{Sent, WaitedAt}
use Rattle.meters.specs.Handles as meters
use Rattle.thread_table.specs.declared.layout.TheConstants.{ELEMENTS}
use Rattle.thread_table.specs.Own.{View}
use Rattle.thread_table.specs.Answers.{PutsOn, TakesOff}
use Rattle.thread_table.specs.Handles.{view_of}
use Rattle.thread_table.specs.Rules.{done_at, has}
use Rattle.processor.specs.declared.step_outcome.StepOutcome.{StepOutcome}
use Rattle.processor.specs.declared.phases.Moved.{Moved}
use Rattle.processor.specs.declared.phases.Moved.TheVariants as moveds
use Rattle.processor.specs.declared.phases.Ticket.{Ticket}
use Rattle.processor.specs.declared.shared.Shared.{Shared}
use Rattle.processor.specs.declared.station.Parts.{Parts}
use Rattle.processor.specs.Outcomes.{is_done, sleeps_on, wait_of}
use Rattle.processor.specs.Programs.{step_of}
use Rattle.processor.specs.Steps.{HandDid, QueuesDid, ChainsDid, SeatDid}

-- the element was put on the processor, its step was tried, and counted if it is done, and the element was taken off
pub record Stepped (call : ℕ) (plan : BootPlan) (p element : ℕ) (step_outcome : StepOutcome) (counted : Counted)
    (v w : View) : Type 0 where
  pub on : View
  pub did : View
  pub after : View
  pub puts : PutsOn call p element v on
  pub does : HandDid call plan step_outcome on did
  pub counts : CountAnswer call element (is_done step_outcome) did counted after
  pub takes : TakesOff call p element after w

-- the hand holds the element, which had this number of steps done when its turn began, and this is its next step
pub record IsAtHand (shared : Shared) (begun : Begun) (step : Step) (parts : Parts) : Type 0 where
  pub is_one : begun.element < ELEMENTS
  pub held : has (view_of parts.hand) begun.element ≡ true
  pub known : begun.number ≡ done_at (view_of parts.hand).seen.object begun.element
  pub low : begun.number < 64
  pub its : step_of shared.plan begun.element begun.number ≡ Some step

-- the effect of the step at all ends except the hand
pub record EndsDid (shared : Shared) (step_outcome : StepOutcome) (line : List ℕ) (old new : Parts) : Type 0 where
  pub queues : QueuesDid step_outcome line old.queues new.queues
  pub chains : ChainsDid shared.chains.items step_outcome old.chains.items new.chains.items
  pub seat : SeatDid step_outcome (meters.view_of old.meters) (meters.view_of new.meters)

-- The element was sent on after its step: with its ticket to the wait queue of a pipe; for a step that waits, to the
-- step's wait queue; after its last step to the free elements; and otherwise to the ready ring
abbrev pub Goes : ℕ → StepOutcome → Bool → ℕ → Moved → View → View → Type 0
Goes call step_outcome last element (moveds.Ticketed waited) v w = (ticket : Ticket)
    × (sleeps_on step_outcome ≡ Some ticket)
    × WaitedAt call ticket.wait element ticket.number waited v w
Goes call step_outcome last element (moveds.Waits moved) v w = (wait : ℕ) × (sleeps_on step_outcome ≡ None)
    × (wait_of step_outcome ≡ Some wait) × Sent call (wait_ring wait) element moved v w
Goes call step_outcome last element (moveds.Freed moved) v w =
    (sleeps_on step_outcome ≡ None) × (wait_of step_outcome ≡ None) × (last ≡ true) × Sent call 1 element moved v w
Goes call step_outcome last element (moveds.Ready moved) v w =
    (sleeps_on step_outcome ≡ None) × (wait_of step_outcome ≡ None) × (last ≡ false) × Sent call 0 element moved v w
