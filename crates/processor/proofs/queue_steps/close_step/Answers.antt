use Rattle.processor.proofs.Common.{rules, [], refl, count_of, views}
use Rattle.processor.specs.declared.step_outcome.StepOutcome.TheVariants as step_outcomes
use Rattle.processor.proofs.Ordering.{queues_tried}
use Rattle.processor.proofs.queue_steps.close_step.Goals as goal

pub returns-clause-ends : goal.returns-clause-ends
returns-clause-ends g c p = queues_tried (views g.G.Watch.shown g.G.QueueGate-1.at_end g.G.QueueGate-2.at_end g.G.ChainGate.at_chain_end) c.args.shared.now p (count_of c.args.parts.now.hand) (step_outcomes.Close c.args.queue c.shut-was_open.result c.wake_for-readers.result c.wake_for-writers.result) [] c.args.gate.now c.args.gate.now c.args.parts.now c.wake_for-writers.new.hand c.shut-was_open.new.self
    c.shut-was_open.ensures.shut refl refl
    (record { hand = c.args.parts.now.hand; counted = refl; before = c.show_queues.ensures; after = c.show_queues-2.ensures }) tt tt refl
    (search rules) c.shut-was_open.ensures.handle c.requires.parts.chains.idle
