use Rattle.processor.proofs.Common.{rules, ◌≡◌, ◌≤◌, ℕ, List, length, Some, refl, sym, subst, Step, slice_get_read, CameInOrder, views}
use Rattle.std.proofs.Common.{slice_get}
use Rattle.processor.specs.declared.outcome.TurnOutcome.TheVariants as outcomes
use Rattle.processor.specs.declared.outcome.TurnResult.TheVariants as hads
use Rattle.processor.proofs.Keeping.{stays_on}
use Rattle.processor.proofs.turn.dispatch.Goals as goal

pub run_element-sent-requires-clause-at_hand : goal.run_element-sent-requires-clause-at_hand
run_element-sent-requires-clause-at_hand g c = record {
  is_one = c.in-Ok.ensures.begun.is_one;
  held = c.in-Ok.ensures.held;
  known = c.in-Ok.ensures.number;
  low = search rules;
  its = subst (λ (z : List Step). slice_get z c.in-Ok.begun.number ≡ Some c.index-steps-number.result) c.program_of-steps.ensures (slice_get_read _ _ _ _ refl c.if-number-steps.false c.index-steps-number.is);
}

pub returns-then-number-steps-clause-came : goal.returns-then-number-steps-clause-came
returns-then-number-steps-clause-came g c =
    let e = c.retire_at-moved.ensures in
    let begun = c.in-Ok.begun in
    let outcome = outcomes.OfElement begun (hads.Retired c.retire_at-moved.result) in
    let over = subst (λ (z : List Step). length z ≤ begun.number) c.program_of-steps.ensures c.if-number-steps.true in
    subst (λ (line : List ℕ). CameInOrder (views g.G.Watch.shown g.G.QueueGate-1.at_end g.G.QueueGate-2.at_end g.G.ChainGate.at_chain_end) c.args.shared.now c.args.p outcome line c.args.gate.now c.args.gate.now c.args.parts.now c.retire_at-moved.new.parts)
    (sym c.clear.ensures) (c.begin_turn.new.parts, c.in-Ok.ensures.begun, (over, e.sent, e.rest, e.frame.0, e.frame.1, refl), refl)

pub returns-else-number-steps-clause-station : goal.returns-else-number-steps-clause-station
returns-else-number-steps-clause-station g c = stays_on c.args.shared.now c.args.p c.args.parts.now c.begin_turn.new.parts c.run_element-sent.new.parts c.in-Ok.ensures.station c.run_element-sent.ensures.station

pub returns-else-number-steps-clause-came : goal.returns-else-number-steps-clause-came
returns-else-number-steps-clause-came g c = (c.begin_turn.new.parts, c.in-Ok.ensures.begun, c.run_element-sent.ensures.ran.0, c.run_element-sent.ensures.ran.1)

pub returns-in-Err-clause-came : goal.returns-in-Err-clause-came
returns-in-Err-clause-came g c = ((c.in-Err.ensures.begun, c.clear.ensures), refl)
