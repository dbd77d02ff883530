-- The results of a try at a queue.
use Rattle.std.specs.Prelude.{Result, Ok, Err}
use Rattle.claim_queue.specs.declared.claim.ClaimRefusal.{ClaimRefusal}
use Rattle.claim_queue.specs.declared.claim.ClaimRefusal.TheVariants as claims
use Rattle.claim_queue.specs.declared.take.TakeRefusal.{TakeRefusal}
use Rattle.claim_queue.specs.declared.take.TakeRefusal.TheVariants as takes
use Rattle.processor.specs.declared.phases.HearAnswer.{HearAnswer}
use Rattle.processor.specs.declared.phases.HearAnswer.TheVariants as hears
use Rattle.processor.specs.declared.phases.SayAnswer.{SayAnswer}
use Rattle.processor.specs.declared.phases.SayAnswer.TheVariants as says

-- the queue's answer to the one try to say a line
abbrev pub said : SayAnswer → Result (Unit {0}) ClaimRefusal
said (says.Put woken) = Ok tt
said says.Over = Err claims.Closed
said (says.Refused unsaid) = Err unsaid.refusal

-- the queue's answer to the one try to hear a line
abbrev pub heard : HearAnswer → Result (Unit {0}) TakeRefusal
heard (hears.Taken woken) = Ok tt
heard (hears.Over woken) = Err takes.Closed
heard (hears.Refused unheard) = Err unheard.refusal
