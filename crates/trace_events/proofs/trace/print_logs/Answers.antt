use Rattle.trace_events.proofs.Common.{Bor, Kept, log_events, slice_start}
use Rattle.trace_events.proofs.Printing.{mapped_done, mapped_more}
use Rattle.trace_events.proofs.trace.print_logs.Goals as goal

pub loop-processor-preserved : goal.loop-processor-preserved
loop-processor-preserved g c = λ later h.
    c.loop-processor.invariant later (mapped_more (λ (log : Bor Kept). log.now) (log_events c.args.plan.now c.args.from (slice_start c.args.turns.now)) _ _ _ c.loop-processor.processor c.args.logs.now c.index-logs-processor.result c.loop-processor-test.true c.index-logs-processor.is c.in_ok-print_log.ensures h)

pub returns : goal.returns
returns g c = c.loop-processor.invariant _ (mapped_done (λ (log : Bor Kept). log.now) (log_events c.args.plan.now c.args.from (slice_start c.args.turns.now)) (g.W.Write.contents c.loop-processor.out) c.loop-processor.processor c.args.logs.now c.loop-processor-test.false)
