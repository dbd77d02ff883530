use Rattle.trace_events.proofs.Common.{passing_events, slice_start}
use Rattle.trace_events.proofs.Printing.{events_done, events_more}
use Rattle.trace_events.proofs.flows.print_passings.Goals as goal

pub loop-number-preserved : goal.loop-number-preserved
loop-number-preserved g c = λ later h.
    c.loop-number.invariant later (events_more (passing_events (slice_start c.args.turns.now)) _ _ _ c.loop-number.number c.args.all.now c.index-all-number.result c.loop-number-test.true c.index-all-number.is c.in_ok-print_passing.ensures h)

pub returns : goal.returns
returns g c = c.loop-number.invariant _ (events_done (passing_events (slice_start c.args.turns.now)) (g.W.Write.contents c.loop-number.out) c.loop-number.number c.args.all.now c.loop-number-test.false)
