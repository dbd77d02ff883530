-- The log entry of a turn of a processor: the result of the turn, and the account of that result.
use Rattle.std.specs.Prelude.{◌≡◌, ◌≤◌, ◌+◌, ◌&&◌, ℕ, Bool, true, false, nat_lt, List, [], length, Option, Some, None}
use Rattle.std.specs.Prelude.{Result}
use Rattle.boot_data.specs.declared.boot_plan.BootPlan.{BootPlan}
use Rattle.boot_data.specs.declared.plan.QueueIndex.{QueueIndex}
use Rattle.boot_data.specs.declared.plan.Step.{Step}
use Rattle.event_theory.specs.declared.alarm.Alarm.{Alarm}
use Rattle.turn_dispatch.specs.declared.counting.Counted.{Counted}
use Rattle.turn_dispatch.specs.declared.counting.Counted.TheVariants as counted
use Rattle.turn_dispatch.specs.declared.dispatch.Begun.{Begun}
use Rattle.turn_dispatch.specs.Countings.{counted_step}
use Rattle.turn_dispatch.specs.Dispatches.{mask_of}
use Rattle.turn_dispatch.specs.Sendings.{retired}
use Rattle.turn_dispatch.specs.Tallies.{Tally, followed_by, no_events, one_delivery, delivery, signals_for}
use Rattle.turn_dispatch.specs.Tallies.{is_delivered}
use Rattle.turn_dispatch.specs.Tendings.{tick_to}
use Rattle.meters.specs.declared.gauges.AdvanceRefusal.{AdvanceRefusal}
use Rattle.meters.specs.Own.{nothing_did}
use Rattle.processor.specs.declared.outcome.TurnResult.{TurnResult}
use Rattle.processor.specs.declared.outcome.TurnResult.TheVariants as hads
use Rattle.processor.specs.declared.outcome.TurnOutcome.{TurnOutcome}
use Rattle.processor.specs.declared.outcome.TurnOutcome.TheVariants as outcomes
use Rattle.processor.specs.declared.phases.Moved.{Moved}
use Rattle.processor.specs.declared.phases.Moved.TheVariants as moveds
use Rattle.processor.specs.declared.phases.Rescheduled.{Rescheduled}
use Rattle.processor.specs.Accounts.{Account, nothing, ◌⊕◌}
use Rattle.processor.specs.Outcomes.{is_done, IsOutcomeOf}
use Rattle.processor.specs.Doings.{queues_by, chains_by, ticks_by, raised_by, heard_by, saw_shut}
use Rattle.processor.specs.Programs.{program, step_of}

-- the result of tending the alarms: the tick to which the clock was advanced, or the refusal; and the alarms fired
pub record Tended : Type 0 where
  pub advanced : Result ℕ AdvanceRefusal
  pub fired : List Alarm

-- The result of a turn: of the alarms, which only processor 0 tends, and of an element's turn. The line is the one that
-- the step was to say, or heard; it is empty if the step did neither
pub record LogEntry : Type 0 where
  pub tended : Option Tended
  pub outcome : TurnOutcome
  pub line : List ℕ

-- the result of tending the alarms, if they were tended: then there is an answer of the clock
abbrev pub tended_of : Option (Result ℕ AdvanceRefusal) → List Alarm → Option Tended
tended_of None fired = None
tended_of (Some advanced) fired = Some (record { advanced = advanced; fired = fired })

-- the entry of a turn, of the values that a gate gets
abbrev pub entry_of : Option (Result ℕ AdvanceRefusal) → List Alarm → TurnOutcome → List ℕ → LogEntry
entry_of advanced fired outcome line = record { tended = tended_of advanced fired; outcome = outcome; line = line }

-- THE ACCOUNT OF A TURN

-- the account of tending the alarms: the clock's advance, if made, and the fired alarms with their signals
abbrev pub tending : Option Tended → Account
tending None = nothing
tending (Some tended) = record nothing {
  hand = signals_for tended.fired;
  meters = record nothing_did { advances = tick_to tended.advanced; fired = tended.fired };
}

-- the account of a turn's beginning: the signals that the element had were delivered
abbrev pub beginning : Begun → Account
beginning begun = record nothing {
  hand = one_delivery begun.element (mask_of begun.delivered);
  shown = λ element signal. nat_lt element 64 && (nat_lt signal 16
      && is_delivered (delivery begun.element (mask_of begun.delivered)) element signal);
}

-- the retirement of the element, with its number of steps done, if it went to the free elements
abbrev pub gone : Moved → ℕ → ℕ → Tally
gone (moveds.Freed moved) element number = retired moved element number
gone moved element number = no_events

-- the account of a tried step: its result with this line, its count if it is done, and the element's retirement if it was
-- retired
abbrev pub trying : ℕ → ℕ → Rescheduled → List ℕ → Account
trying element number sent line = record nothing {
  queues = queues_by sent.tried.step_outcome line;
  chains = chains_by sent.tried.step_outcome;
  hand = followed_by (followed_by (raised_by sent.tried.step_outcome) (counted_step sent.tried.counted element number))
      (gone sent.moved element (number + 1));
  meters = ticks_by sent.tried.step_outcome;
  heard = heard_by sent.tried.step_outcome element number line;
}

-- the account of an element's turn: its retirement, or the try of its step
abbrev pub having : ℕ → ℕ → TurnResult → List ℕ → Account
having element number (hads.Retired moved) line = record nothing { hand = retired moved element number }
having element number (hads.Ran sent) line = trying element number sent line

-- the account of an element's turn; nothing, if no element was at hand
abbrev pub outcome_account : TurnOutcome → List ℕ → Account
outcome_account (outcomes.Idle idle) line = nothing
outcome_account (outcomes.OfElement begun had) line = beginning begun ⊕ having begun.element begun.number had line

-- the account of a turn
abbrev pub entry_account : LogEntry → Account
entry_account entry = tending entry.tended ⊕ outcome_account entry.outcome entry.line

-- HOW A TURN FOLLOWS THE PLAN

-- the count of a step with this number: counted if it is done, and otherwise not
abbrev pub count_of : Bool → ℕ → Counted
count_of true number = counted.Done (number + 1)
count_of false number = counted.Undone

-- an element sent to the free elements has no step left
abbrev pub IsOver : Moved → ℕ → ℕ → Type 0
IsOver (moveds.Freed moved) number steps = steps ≤ number
IsOver moved number steps = Unit {0}

-- The tried step is the plan's step of this thread with this number, the outcome and the line are its result, and it was
-- counted if it is done. An element sent to the free elements has no step left
pub record FollowsStep (plan : BootPlan) (element number : ℕ) (sent : Rescheduled) (line : List ℕ) : Type 0 where
  pub step : Step
  pub is : step_of plan element number ≡ Some step
  pub step_outcome : IsOutcomeOf step sent.tried.step_outcome line
  pub counts : sent.tried.counted ≡ count_of (is_done sent.tried.step_outcome) number
  pub over : IsOver sent.moved (number + 1) (length (program plan element))

-- the turn of an element with this number of steps done follows the plan
abbrev pub TurnResultFollows : BootPlan → ℕ → ℕ → TurnResult → List ℕ → Type 0
TurnResultFollows plan element number (hads.Retired moved) line = (length (program plan element) ≤ number) × (line ≡ [])
TurnResultFollows plan element number (hads.Ran sent) line = FollowsStep plan element number sent line

-- the result of an element's turn, if one was at hand, follows the plan
abbrev pub OutcomeFollows : BootPlan → TurnOutcome → List ℕ → Type 0
OutcomeFollows plan (outcomes.Idle idle) line = line ≡ []
OutcomeFollows plan (outcomes.OfElement begun had) line = TurnResultFollows plan begun.element begun.number had line

-- An element that had a turn was sent to the free elements with all its steps done, or its next step of the plan was
-- tried. In both cases an element sent to the free elements has no step left. A turn without a try has no line
abbrev pub FollowsPlan : BootPlan → LogEntry → Type 0
FollowsPlan plan entry = OutcomeFollows plan entry.outcome entry.line

-- WHICH QUEUES A TURN FOUND SHUT

-- for each queue: whether the say or hear of an element's turn was answered that the queue is shut
abbrev pub outcome_saw_shut : TurnOutcome → QueueIndex → Bool
outcome_saw_shut (outcomes.OfElement begun (hads.Ran sent)) = saw_shut sent.tried.step_outcome
outcome_saw_shut outcome = λ queue. false

-- whether the say or hear of a turn was answered that this queue is shut
abbrev pub turn_saw_shut : QueueIndex → LogEntry → Bool
turn_saw_shut queue entry = outcome_saw_shut entry.outcome queue
