-- The result of a turn as plain values.
use Rattle.std.specs.Prelude.{ℕ, List, [], Option, Some, None, Result}
use Rattle.event_theory.specs.declared.alarm.Alarm.{Alarm}
use Rattle.meters.specs.declared.gauges.AdvanceRefusal.{AdvanceRefusal}
use Rattle.processor.specs.declared.outcome.TurnOutcome.{TurnOutcome}
use Rattle.processor.specs.declared.outcome.TurnOutcome.TheVariants as outcomes
use Rattle.processor.specs.declared.outcome.TurnResult.TheVariants as results
use Rattle.processor.specs.declared.step_outcome.StepOutcome.{StepOutcome}
use Rattle.processor.specs.declared.step_outcome.StepOutcome.TheVariants as steps
use Rattle.processor.specs.declared.phases.HearAnswer.{HearAnswer}
use Rattle.processor.specs.declared.phases.HearAnswer.TheVariants as hears
use Rattle.processor.specs.declared.phases.SayAnswer.{SayAnswer}
use Rattle.processor.specs.declared.phases.SayAnswer.TheVariants as says
use Rattle.processor.specs.Entries.{Tended}
use Rattle.boot_log.specs.declared.entry.Did.{Did}
use Rattle.boot_log.specs.declared.entry.Did.TheVariants as did
use Rattle.boot_log.specs.declared.entry.HeardAnswer.{HeardAnswer}
use Rattle.boot_log.specs.declared.entry.HeardAnswer.TheVariants as heard
use Rattle.boot_log.specs.declared.entry.Part.{Part}
use Rattle.boot_log.specs.declared.entry.SaidAnswer.{SaidAnswer}
use Rattle.boot_log.specs.declared.entry.SaidAnswer.TheVariants as said
use Rattle.boot_log.specs.declared.entry.Tried.{Tried}
use Rattle.boot_log.specs.declared.entry.Tried.TheVariants as tried

-- the tick to which the clock was advanced, or the refusal, if the alarms were tended
abbrev pub advance_of : Option Tended → Option (Result ℕ AdvanceRefusal)
advance_of None = None
advance_of (Some tended) = Some tended.advanced

-- the alarms that were fired; none if the alarms were not tended
abbrev pub fired_of : Option Tended → List Alarm
fired_of None = []
fired_of (Some tended) = tended.fired

-- the answer to a say
abbrev pub said_of : SayAnswer → SaidAnswer
said_of (says.Put woken) = said.Put woken
said_of says.Over = said.Over
said_of (says.Refused unsaid) = said.Refused unsaid.refusal

-- the answer to a hear
abbrev pub heard_of : HearAnswer → HeardAnswer
heard_of (hears.Taken woken) = heard.Taken woken
heard_of (hears.Over woken) = heard.Over woken
heard_of (hears.Refused unheard) = heard.Refused unheard.refusal

-- the result of the one try of a step
abbrev pub tried_of : StepOutcome → Tried
tried_of (steps.Say queue answer) = tried.Say queue (said_of answer)
tried_of (steps.Hear queue answer) = tried.Hear queue (heard_of answer)
tried_of (steps.Wait wait) = tried.Wait wait
tried_of (steps.Wake wait woken) = tried.Wake wait woken
tried_of (steps.Signal thread signal answer) = tried.Signal thread signal answer
tried_of (steps.Stop thread was_clear) = tried.Stop thread was_clear
tried_of (steps.Start thread answer) = tried.Start thread answer
tried_of (steps.Tick gauge amount before) = tried.Tick gauge amount before
tried_of (steps.Poke mover answer) = tried.Poke mover answer
tried_of steps.Pass = tried.Pass
tried_of (steps.Close queue was_open readers writers) = tried.Close queue was_open readers writers

-- the result of an element's turn, if one was at hand, with the place of the line of its step
abbrev pub did_of : TurnOutcome → Part → Did
did_of (outcomes.Idle idle) line = did.Idle idle
did_of (outcomes.OfElement begun (results.Retired freed)) line = did.Retired begun freed
did_of (outcomes.OfElement begun (results.Ran sent)) line =
    did.Stepped begun (tried_of sent.tried.step_outcome) sent.tried.counted sent.moved line

-- the line of the step that was tried; empty, if none was
abbrev pub step_line : TurnOutcome → List ℕ → List ℕ
step_line (outcomes.OfElement begun (results.Ran sent)) line = line
step_line outcome line = []

-- the place of the line of the step that was tried; empty, if none was
abbrev pub line_part : Did → Part
line_part (did.Stepped begun step counted moved line) = line
line_part other = record { start = 0; len = 0 }
