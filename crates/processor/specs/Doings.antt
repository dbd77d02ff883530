-- The work of a step with this result, as parts of an account. The line is the one to be said, or the one heard.
use Rattle.std.specs.Prelude.{ℕ, Bool, true, false, List, [], ◌∷◌}
use Rattle.boot_data.specs.Hearing.{Line, bytes_of}
use Rattle.boot_data.specs.declared.plan.QueueIndex.{QueueIndex}
use Rattle.boot_data.specs.declared.plan.QueueIndex.TheVariants.{Small}
use Rattle.turn_io.specs.Accounts.{AtQueue, AtChain, idle_queue, idle_chain, at_one, only, put_if, taken_if, shut_if}
use Rattle.turn_io.specs.Accounts.{chained_if}
use Rattle.turn_dispatch.specs.Tallies.{Tally, no_events, one_signal}
use Rattle.meters.specs.declared.rule.MeterOps.{MeterOps}
use Rattle.meters.specs.Own.{nothing_did}
use Rattle.processor.specs.declared.step_outcome.StepOutcome.{StepOutcome}
use Rattle.processor.specs.declared.step_outcome.StepOutcome.TheVariants as step_outcomes
use Rattle.processor.specs.declared.phases.HearAnswer.TheVariants as hears
use Rattle.processor.specs.declared.phases.SayAnswer.TheVariants as says
use Rattle.processor.specs.Tries.{said, heard}

-- the work of a step with this result at each queue
abbrev pub queues_by : StepOutcome → List ℕ → QueueIndex → AtQueue
queues_by (step_outcomes.Say queue answer) line = only idle_queue queue (put_if (said answer) line)
queues_by (step_outcomes.Hear queue answer) line = only idle_queue queue (taken_if (heard answer) line)
queues_by (step_outcomes.Close queue was_open readers writers) line = only idle_queue (Small queue) (shut_if was_open)
queues_by step_outcome line = λ queue. idle_queue

-- the work of a step with this result at each chain
abbrev pub chains_by : StepOutcome → ℕ → AtChain
chains_by (step_outcomes.Poke mover answer) = at_one idle_chain mover (chained_if answer 0)
chains_by step_outcome = λ chain. idle_chain

-- the work of a step with this result at the meters
abbrev pub ticks_by : StepOutcome → MeterOps
ticks_by (step_outcomes.Tick gauge amount before) =
    record nothing_did { ticks = record { gauge = gauge; amount = amount } ∷ [] }
ticks_by step_outcome = nothing_did

-- the signal that a step with this result raised, if any, as a tally
abbrev pub raised_by : StepOutcome → Tally
raised_by (step_outcomes.Signal thread signal answer) = one_signal thread signal
raised_by step_outcome = no_events

-- the record of the line that a step heard, if any: the thread, the step's number, and the bytes of the line
abbrev pub heard_by : StepOutcome → ℕ → ℕ → List ℕ → List Line
heard_by (step_outcomes.Hear queue (hears.Taken woken)) thread number line = ((thread, number), bytes_of line) ∷ []
heard_by step_outcome thread number line = []

-- for each queue: whether the step's say or hear was answered that the queue is shut
abbrev pub saw_shut : StepOutcome → QueueIndex → Bool
saw_shut (step_outcomes.Say queue says.Over) = only false queue true
saw_shut (step_outcomes.Hear queue (hears.Over woken)) = only false queue true
saw_shut step_outcome = λ queue. false

-- whether the step took a line
abbrev pub is_heard : StepOutcome → Bool
is_heard (step_outcomes.Hear queue (hears.Taken woken)) = true
is_heard step_outcome = false
