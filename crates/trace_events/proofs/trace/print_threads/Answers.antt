use Rattle.trace_events.specs.Traces.{thread_events}
use Rattle.trace_events.proofs.Printing.{events_done, events_more}
use Rattle.trace_events.proofs.trace.print_threads.Goals as goal

pub loop-number-preserved : goal.loop-number-preserved
loop-number-preserved g c = λ later h.
    c.loop-number.invariant later (events_more thread_events _ _ _ c.loop-number.number c.args.threads.now c.index-threads-number.result c.loop-number-test.true c.index-threads-number.is c.in_ok-print_thread.ensures h)

pub returns : goal.returns
returns g c = c.loop-number.invariant _ (events_done thread_events (g.W.Write.contents c.loop-number.out) c.loop-number.number c.args.threads.now c.loop-number-test.false)
