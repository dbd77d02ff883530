use Rattle.trace_events.proofs.Common.{Bor, Kept, processor_events}
use Rattle.trace_events.proofs.Printing.{mapped_done, mapped_each}
use Rattle.trace_events.proofs.trace.print_processors.Goals as goal

pub loop-processor-preserved : goal.loop-processor-preserved
loop-processor-preserved g c = λ later h.
    c.loop-processor.invariant later (mapped_each (λ (log : Bor Kept). log.now) (λ processor log. processor_events processor) _ _ _ c.loop-processor.processor c.args.logs.now c.loop-processor-test.true (λ log. c.in_ok-print_processor.ensures) h)

pub returns : goal.returns
returns g c = c.loop-processor.invariant _ (mapped_done (λ (log : Bor Kept). log.now) (λ processor log. processor_events processor) (g.W.Write.contents c.loop-processor.out) c.loop-processor.processor c.args.logs.now c.loop-processor-test.false)
