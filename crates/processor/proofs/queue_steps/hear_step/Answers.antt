use Rattle.processor.proofs.Common.{rules, ◌≡◌, true, false, Err, refl, subst, HeardAt, count_of, is_over, views}
use Rattle.claim_queue.specs.declared.take.TakeRefusal.{TakeRefusal}
use Rattle.claim_queue.specs.declared.take.TakeRefusal.TheVariants as takes
use Rattle.processor.specs.declared.phases.HearAnswer.TheVariants as hears
use Rattle.processor.specs.declared.step_outcome.StepOutcome.TheVariants as step_outcomes
use Rattle.processor.proofs.Ordering.{queues_tried, tried_between}
use Rattle.processor.proofs.queue_steps.hear_step.Goals as goal

over_so : (r : TakeRefusal) → is_over r ≡ true → r ≡ takes.Closed
over_so takes.Closed is = refl
over_so r is = absurd cc

pub returns-in-Ok-clause-ends : goal.returns-in-Ok-clause-ends
returns-in-Ok-clause-ends g c = queues_tried (views g.G.Watch.shown g.G.QueueGate-1.at_end g.G.QueueGate-2.at_end g.G.ChainGate.at_chain_end) c.args.shared.now c.args.p (count_of c.args.parts.now.hand) (step_outcomes.Hear c.args.queue (hears.Taken c.wake_for.result)) c.hear-answer.new.room.line.items c.args.gate.now c.hear-answer.new.gate c.args.parts.now c.wake_for.new.hand c.hear-answer.new.self
    (c.in-Ok.ensures.heard) refl refl
    (tried_between g.G.Watch.shown.queues _ _ c.args.parts.now.hand c.ticket_for-ticket.new.hand c.args.gate.now c.hear-answer.new.gate c.args.parts.now.queues c.hear-answer.new.self c.waits_of-readers.ensures.readers c.ticket_for-ticket.ensures.count c.show_queues.ensures c.show_queues-2.ensures) tt tt c.hear-answer.ensures.points
    (search rules) c.hear-answer.ensures.handle c.requires.parts.chains.idle

pub returns-then-is_over-clause-ends : goal.returns-then-is_over-clause-ends
returns-then-is_over-clause-ends g c =
    let over : is_over c.in-Err.refusal ≡ true = search rules in queues_tried (views g.G.Watch.shown g.G.QueueGate-1.at_end g.G.QueueGate-2.at_end g.G.ChainGate.at_chain_end) c.args.shared.now c.args.p (count_of c.args.parts.now.hand) (step_outcomes.Hear c.args.queue (hears.Over c.wake_for-then-is_over.result)) c.hear-answer.new.room.line.items c.args.gate.now c.hear-answer.new.gate c.args.parts.now c.wake_for-then-is_over.new.hand c.hear-answer.new.self (subst (λ (r : TakeRefusal). HeardAt {A = Unit {0}} c.args.queue c.hear-answer.new.room.line.items (Err r) c.args.parts.now.queues c.hear-answer.new.self) (over_so c.in-Err.refusal over) c.in-Err.ensures.heard) refl refl
    (tried_between g.G.Watch.shown.queues _ _ c.args.parts.now.hand c.ticket_for-ticket.new.hand c.args.gate.now c.hear-answer.new.gate c.args.parts.now.queues c.hear-answer.new.self c.waits_of-readers.ensures.readers c.ticket_for-ticket.ensures.count c.show_queues.ensures c.show_queues-2.ensures) tt tt c.hear-answer.ensures.points
    (search rules) c.hear-answer.ensures.handle c.requires.parts.chains.idle

pub returns-else-is_over-clause-ends : goal.returns-else-is_over-clause-ends
returns-else-is_over-clause-ends g c =
    let opened : is_over c.in-Err.refusal ≡ false = search rules in queues_tried (views g.G.Watch.shown g.G.QueueGate-1.at_end g.G.QueueGate-2.at_end g.G.ChainGate.at_chain_end) c.args.shared.now c.args.p (count_of c.args.parts.now.hand) (step_outcomes.Hear c.args.queue (hears.Refused (record { refusal = c.in-Err.refusal; ticket = c.ticket_for-ticket.result; opened = opened }))) c.hear-answer.new.room.line.items c.args.gate.now c.hear-answer.new.gate c.args.parts.now c.ticket_for-ticket.new.hand c.hear-answer.new.self
    (c.in-Err.ensures.heard) refl refl
    (tried_between g.G.Watch.shown.queues _ _ c.args.parts.now.hand c.ticket_for-ticket.new.hand c.args.gate.now c.hear-answer.new.gate c.args.parts.now.queues c.hear-answer.new.self c.waits_of-readers.ensures.readers c.ticket_for-ticket.ensures.count c.show_queues.ensures c.show_queues-2.ensures) tt tt c.hear-answer.ensures.points
    (search rules) c.hear-answer.ensures.handle c.requires.parts.chains.idle
