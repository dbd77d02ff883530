-- The effects of the one try of a step, by its result.
use Rattle.std.specs.Prelude.{◌≡◌, ◌<◌, ℕ, List, Option}
use Rattle.boot_data.specs.declared.boot_plan.BootPlan.{BootPlan}
use Rattle.boot_data.specs.declared.plan.QueueIndex.TheVariants.{Small}
use Rattle.boot_data.specs.declared.plan.Step.{Step}
use Rattle.boot_data.specs.declared.plan.Step.TheVariants as steps
use Rattle.turn_io.specs.declared.queue_ends.QueueEnds.{QueueEnds}
use Rattle.turn_io.specs.Outcomes.{PokedAt}
use Rattle.turn_io.specs.QueueEnds.{IsThere, SaidAt, HeardAt, ShutAt}
use Rattle.turn_dispatch.specs.Wakings.{Woke, ResumeAnswer}
use Rattle.meters.specs.Own.{SeatView, DidTick}
use Rattle.meters.specs.Answers.{Ticked}
use Rattle.proc_chain.specs.declared.ends.ChainEnd.{ChainEnd}
use Rattle.proc_chain.specs.declared.ends.ProcChain.{ProcChain}
use Rattle.proc_chain.specs.declared.quaject.Quaject.{Ghosts}
use Rattle.quajects.specs.declared.world.Queues.{Queues}
use Rattle.thread_table.specs.Own.{View}
use Rattle.thread_table.specs.Answers.{SignalAnswer, StoppedNow}
use Rattle.processor.specs.declared.step_outcome.StepOutcome.{StepOutcome}
use Rattle.processor.specs.declared.step_outcome.StepOutcome.TheVariants as step_outcomes
use Rattle.processor.specs.declared.phases.Ticket.{Ticket}
use Rattle.processor.specs.declared.phases.HearAnswer.{HearAnswer}
use Rattle.processor.specs.declared.phases.HearAnswer.TheVariants as hears
use Rattle.processor.specs.declared.phases.SayAnswer.{SayAnswer}
use Rattle.processor.specs.declared.phases.SayAnswer.TheVariants as says
use Rattle.processor.specs.Pipes.{TicketFor, WokeFor, readers_of, writers_of}
use Rattle.processor.specs.Queues.{waits_at}
use Rattle.processor.specs.Tries.{said, heard}

-- the queue or chain that a step names exists
abbrev pub Fits : Queues → ℕ → Step → Type 0
Fits queues chains (steps.Say queue text) = IsThere queues queue
Fits queues chains (steps.Hear queue) = IsThere queues queue
Fits queues chains (steps.Poke mover) = mover < chains
Fits queues chains (steps.Close queue) = IsThere queues (Small queue)
Fits queues chains step = Unit {0}

-- Elements that wait for a line were woken if the say put one, and otherwise not. A refused say has the ticket that was
-- read before its try
abbrev pub WokeBySay : ℕ → Option ℕ → Option Ticket → SayAnswer → View → View → Type 0
WokeBySay call wait ticket (says.Put woken) v w = WokeFor call wait v woken w
WokeBySay call wait ticket says.Over v w = w ≡ v
WokeBySay call wait ticket (says.Refused unsaid) v w = (unsaid.ticket ≡ ticket) × (w ≡ v)

-- Elements that wait for room were woken if the hear took a line, or if no line will come, and otherwise not. A refused
-- hear has the ticket that was read before its try
abbrev pub WokeByHear : ℕ → Option ℕ → Option Ticket → HearAnswer → View → View → Type 0
WokeByHear call wait ticket (hears.Taken woken) v w = WokeFor call wait v woken w
WokeByHear call wait ticket (hears.Over woken) v w = WokeFor call wait v woken w
WokeByHear call wait ticket (hears.Refused unheard) v w = (unheard.ticket ≡ ticket) × (w ≡ v)

-- The effect of a step with this result at the hand. For a say or a hear at a pipe a ticket was read, and then elements
-- were woken by the answer. For a shut those who wait to hear were woken first, and then those who wait for room
abbrev pub HandDid : ℕ → BootPlan → StepOutcome → View → View → Type 0
HandDid call plan (step_outcomes.Say queue answer) v w = (ticket : Option Ticket) × (u : View)
    × TicketFor (writers_of (waits_at plan queue)) v ticket u
    × WokeBySay call (readers_of (waits_at plan queue)) ticket answer u w
HandDid call plan (step_outcomes.Hear queue answer) v w = (ticket : Option Ticket) × (u : View)
    × TicketFor (readers_of (waits_at plan queue)) v ticket u
    × WokeByHear call (writers_of (waits_at plan queue)) ticket answer u w
HandDid call plan (step_outcomes.Wake wait woken) v w = Woke call wait woken v w
HandDid call plan (step_outcomes.Signal thread signal answer) v w = SignalAnswer call v thread signal answer w
HandDid call plan (step_outcomes.Stop thread was_clear) v w = StoppedNow call v thread was_clear w
HandDid call plan (step_outcomes.Start thread answer) v w = ResumeAnswer call thread answer v w
HandDid call plan (step_outcomes.Close queue was_open readers writers) v w = (u : View)
    × WokeFor call (readers_of (waits_at plan (Small queue))) v readers u
    × WokeFor call (writers_of (waits_at plan (Small queue))) u writers w
HandDid call plan step_outcome v w = w ≡ v

-- the effect of a step with this result at the ends of the queues, with the line said or heard
abbrev pub QueuesDid : StepOutcome → List ℕ → QueueEnds → QueueEnds → Type 0
QueuesDid (step_outcomes.Say queue answer) line old new = SaidAt queue line (said answer) old new
QueuesDid (step_outcomes.Hear queue answer) line old new = HeardAt queue line (heard answer) old new
QueuesDid (step_outcomes.Close queue was_open readers writers) line old new = ShutAt (Small queue) was_open old new
QueuesDid step_outcome line old new = new ≡ old

-- the effect of a step with this result at the ends of the chains
abbrev pub ChainsDid : {Q W : Type 0} {g : Ghosts Q W} → List (ProcChain Q W) → StepOutcome → List (ChainEnd Q W g)
    → List (ChainEnd Q W g) → Type 0
ChainsDid chains (step_outcomes.Poke mover answer) old new = PokedAt chains mover 0 answer old new
ChainsDid chains step_outcome old new = new ≡ old

-- the effect of a step with this result at the seat of the meters
abbrev pub SeatDid : StepOutcome → SeatView → SeatView → Type 0
SeatDid (step_outcomes.Tick gauge amount before) v w = Ticked v gauge amount before w × DidTick gauge amount v w
SeatDid step_outcome v w = w ≡ v
