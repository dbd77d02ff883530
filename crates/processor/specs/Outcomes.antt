-- The result of the one try of a step, with the step's operands.
use Rattle.std.specs.Prelude.{◌≡◌, ℕ, Bool, true, false, List, [], Option, Some, None, Result, Ok, Err}
use Rattle.boot_data.specs.declared.plan.Step.{Step}
use Rattle.boot_data.specs.declared.plan.Step.TheVariants as steps
use Rattle.claim_queue.specs.declared.claim.ClaimRefusal.{ClaimRefusal}
use Rattle.claim_queue.specs.declared.claim.ClaimRefusal.TheVariants as claims
use Rattle.claim_queue.specs.declared.take.TakeRefusal.{TakeRefusal}
use Rattle.claim_queue.specs.declared.take.TakeRefusal.TheVariants as takes
use Rattle.claim_queue.specs.Takings.{IsLine}
use Rattle.turn_io.specs.Accounts.{room_of}
use Rattle.processor.specs.declared.step_outcome.StepOutcome.{StepOutcome}
use Rattle.processor.specs.declared.step_outcome.StepOutcome.TheVariants as step_outcomes
use Rattle.processor.specs.declared.phases.Ticket.{Ticket}
use Rattle.processor.specs.declared.phases.HearAnswer.TheVariants as hears
use Rattle.processor.specs.declared.phases.SayAnswer.TheVariants as says
use Rattle.processor.specs.Queues.{said_line}
use Rattle.processor.specs.Tries.{heard}

-- a step is done unless it was refused
abbrev pub is_done : StepOutcome → Bool
is_done (step_outcomes.Say queue (says.Refused unsaid)) = false
is_done (step_outcomes.Hear queue (hears.Refused unheard)) = false
is_done (step_outcomes.Start thread (Err lost)) = false
is_done (step_outcomes.Poke mover (Err refusal)) = false
is_done step_outcome = true

-- the ticket, if the claim was refused because the queue was full
abbrev pub if_full : ClaimRefusal → Option Ticket → Option Ticket
if_full (claims.Full head tail) ticket = ticket
if_full refusal ticket = None

-- the ticket, if the taking was refused because the queue was empty
abbrev pub if_empty : TakeRefusal → Option Ticket → Option Ticket
if_empty (takes.Empty at) ticket = ticket
if_empty refusal ticket = None

-- the ticket with which the element waits: of a say refused by a full pipe, or of a hear refused by an empty one
abbrev pub sleeps_on : StepOutcome → Option Ticket
sleeps_on (step_outcomes.Say queue (says.Refused unsaid)) = if_full unsaid.refusal unsaid.ticket
sleeps_on (step_outcomes.Hear queue (hears.Refused unheard)) = if_empty unheard.refusal unheard.ticket
sleeps_on step_outcome = None

-- the wait queue of a step that waits, and none of another step
abbrev pub wait_of : StepOutcome → Option ℕ
wait_of (step_outcomes.Wait wait) = Some wait
wait_of step_outcome = None

-- if the answer is Ok, the line is one line of a queue with this many places; otherwise it is empty
abbrev pub IsLineIf : {A E : Type 0} → Result A E → ℕ → List ℕ → Type 0
IsLineIf (Ok done) places line = IsLine places line
IsLineIf (Err refusal) places line = line ≡ []

-- The second is a result of this step, with the same operands. The line is the one to be said or the one heard, and
-- otherwise empty
abbrev pub IsOutcomeOf : Step → StepOutcome → List ℕ → Type 0
IsOutcomeOf (steps.Say queue text) (step_outcomes.Say at answer) line = (at ≡ queue) × (line ≡ said_line text)
IsOutcomeOf (steps.Hear queue) (step_outcomes.Hear at answer) line = (at ≡ queue)
    × IsLineIf (heard answer) (room_of queue) line
IsOutcomeOf (steps.Wait wait) (step_outcomes.Wait at) line = (at ≡ wait) × (line ≡ [])
IsOutcomeOf (steps.Wake wait) (step_outcomes.Wake at woken) line = (at ≡ wait) × (line ≡ [])
IsOutcomeOf (steps.Signal thread signal) (step_outcomes.Signal at number answer) line =
    (at ≡ thread) × (number ≡ signal) × (line ≡ [])
IsOutcomeOf (steps.Stop thread) (step_outcomes.Stop at was_clear) line = (at ≡ thread) × (line ≡ [])
IsOutcomeOf (steps.Start thread) (step_outcomes.Start at answer) line = (at ≡ thread) × (line ≡ [])
IsOutcomeOf (steps.Tick gauge amount) (step_outcomes.Tick at by before) line = (at ≡ gauge) × (by ≡ amount)
    × (line ≡ [])
IsOutcomeOf (steps.Poke mover) (step_outcomes.Poke at answer) line = (at ≡ mover) × (line ≡ [])
IsOutcomeOf steps.Pass step_outcomes.Pass line = line ≡ []
IsOutcomeOf (steps.Close queue) (step_outcomes.Close at was_open readers writers) line = (at ≡ queue) × (line ≡ [])
IsOutcomeOf step step_outcome line = ⊥
