use Rattle.processor.proofs.Common.{rules, ◌≡◌, ℕ, true, false, List, Ok, Err, refl, subst, SaidAt, count_of, is_shut, views}
use Rattle.turn_io.specs.Points.{SayPointsAt, beside}
use Rattle.claim_queue.specs.declared.claim.ClaimRefusal.{ClaimRefusal}
use Rattle.claim_queue.specs.declared.claim.ClaimRefusal.TheVariants as claims
use Rattle.processor.specs.declared.phases.SayAnswer.TheVariants as says
use Rattle.processor.specs.declared.step_outcome.StepOutcome.TheVariants as step_outcomes
use Rattle.processor.proofs.Ordering.{queues_tried, tried_between}
use Rattle.processor.proofs.queue_steps.say_step.Goals as goal

shut_so : (r : ClaimRefusal) → is_shut r ≡ true → r ≡ claims.Closed
shut_so claims.Closed is = refl
shut_so r is = absurd cc

pub returns-in-Ok-clause-ends : goal.returns-in-Ok-clause-ends
returns-in-Ok-clause-ends g c = queues_tried (views g.G.Watch.shown g.G.QueueGate-1.at_end g.G.QueueGate-2.at_end g.G.ChainGate.at_chain_end) c.args.shared.now c.args.p (count_of c.args.parts.now.hand) (step_outcomes.Say c.args.queue (says.Put c.wake_for.result)) c.write_line.new.line.items c.args.gate.now c.say-answer.new.gate c.args.parts.now c.wake_for.new.hand c.say-answer.new.self
    (subst (λ (z : List ℕ). SaidAt {A = Unit {0}} c.args.queue z (Ok tt) c.args.parts.now.queues c.say-answer.new.self) c.as_slice-line.ensures.value c.in-Ok.ensures.said) refl refl
    (tried_between g.G.Watch.shown.queues _ _ c.args.parts.now.hand c.ticket_for-ticket.new.hand c.args.gate.now c.say-answer.new.gate c.args.parts.now.queues c.say-answer.new.self c.waits_of-readers.ensures.writers c.ticket_for-ticket.ensures.count c.show_queues.ensures c.show_queues-2.ensures) tt tt
    (subst (λ (z : List ℕ). SayPointsAt (beside g.G.QueueGate-1.at_end g.G.QueueGate-2.at_end g.G.ChainGate.at_chain_end) c.args.p {A = Unit {0}} {E = ClaimRefusal} c.args.queue z (Ok tt) c.args.gate.now c.say-answer.new.gate c.args.parts.now.queues c.say-answer.new.self) c.as_slice-line.ensures.value c.in-Ok.ensures.points)
    (search rules) c.say-answer.ensures.handle c.requires.parts.chains.idle

pub returns-then-is_shut-clause-ends : goal.returns-then-is_shut-clause-ends
returns-then-is_shut-clause-ends g c =
    let shut : is_shut c.in-Err.refusal ≡ true = search rules in queues_tried (views g.G.Watch.shown g.G.QueueGate-1.at_end g.G.QueueGate-2.at_end g.G.ChainGate.at_chain_end) c.args.shared.now c.args.p (count_of c.args.parts.now.hand) (step_outcomes.Say c.args.queue says.Over) c.write_line.new.line.items c.args.gate.now c.say-answer.new.gate c.args.parts.now c.ticket_for-ticket.new.hand c.say-answer.new.self (subst (λ (z : List ℕ). SaidAt {A = Unit {0}} c.args.queue z (Err claims.Closed) c.args.parts.now.queues c.say-answer.new.self) c.as_slice-line.ensures.value
    (subst (λ (r : ClaimRefusal). SaidAt {A = Unit {0}} c.args.queue c.as_slice-line.result.now (Err r) c.args.parts.now.queues c.say-answer.new.self) (shut_so c.in-Err.refusal shut) c.in-Err.ensures.said)) refl refl
    (tried_between g.G.Watch.shown.queues _ _ c.args.parts.now.hand c.ticket_for-ticket.new.hand c.args.gate.now c.say-answer.new.gate c.args.parts.now.queues c.say-answer.new.self c.waits_of-readers.ensures.writers c.ticket_for-ticket.ensures.count c.show_queues.ensures c.show_queues-2.ensures) tt tt
    (subst (λ (z : List ℕ). SayPointsAt (beside g.G.QueueGate-1.at_end g.G.QueueGate-2.at_end g.G.ChainGate.at_chain_end) c.args.p {A = Unit {0}} {E = ClaimRefusal} c.args.queue z (Err claims.Closed) c.args.gate.now c.say-answer.new.gate c.args.parts.now.queues c.say-answer.new.self) c.as_slice-line.ensures.value c.in-Err.ensures.points)
    (search rules) c.say-answer.ensures.handle c.requires.parts.chains.idle

pub returns-else-is_shut-clause-ends : goal.returns-else-is_shut-clause-ends
returns-else-is_shut-clause-ends g c =
    let opened : is_shut c.in-Err.refusal ≡ false = search rules in queues_tried (views g.G.Watch.shown g.G.QueueGate-1.at_end g.G.QueueGate-2.at_end g.G.ChainGate.at_chain_end) c.args.shared.now c.args.p (count_of c.args.parts.now.hand) (step_outcomes.Say c.args.queue (says.Refused (record { refusal = c.in-Err.refusal; ticket = c.ticket_for-ticket.result; opened = opened }))) c.write_line.new.line.items c.args.gate.now c.say-answer.new.gate c.args.parts.now c.ticket_for-ticket.new.hand c.say-answer.new.self
    (subst (λ (z : List ℕ). SaidAt {A = Unit {0}} c.args.queue z (Err c.in-Err.refusal) c.args.parts.now.queues c.say-answer.new.self) c.as_slice-line.ensures.value c.in-Err.ensures.said) refl refl
    (tried_between g.G.Watch.shown.queues _ _ c.args.parts.now.hand c.ticket_for-ticket.new.hand c.args.gate.now c.say-answer.new.gate c.args.parts.now.queues c.say-answer.new.self c.waits_of-readers.ensures.writers c.ticket_for-ticket.ensures.count c.show_queues.ensures c.show_queues-2.ensures) tt tt
    (subst (λ (z : List ℕ). SayPointsAt (beside g.G.QueueGate-1.at_end g.G.QueueGate-2.at_end g.G.ChainGate.at_chain_end) c.args.p {A = Unit {0}} {E = ClaimRefusal} c.args.queue z (Err c.in-Err.refusal) c.args.gate.now c.say-answer.new.gate c.args.parts.now.queues c.say-answer.new.self) c.as_slice-line.ensures.value c.in-Err.ensures.points)
    (search rules) c.say-answer.ensures.handle c.requires.parts.chains.idle
