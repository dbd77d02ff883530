use Rattle.trace_events.proofs.Common.{sym, ◌∙◌, arith, refl, slice_start}
use Rattle.trace_events.proofs.Turning.{some_left, turns_done, turns_more}
use Rattle.trace_events.proofs.turns.print_turns.Goals as goal

pub loop-left-preserved : goal.loop-left-preserved
loop-left-preserved g c =
    let left = c.loop-left.left.now in
    let counted = c.loop-left.invariant.counted in
    let front = c.split_at.ensures.front_len in
    let back = c.split_at.ensures.back_len in
    record {
      counted = omega arith;
      printed = λ later h. c.loop-left.invariant.printed later (turns_more c.args.plan.now c.args.log.now.bytes (slice_start c.args.turns.now) c.args.processor c.loop-left.number _ c.loop-left.start c.end_of-start.result c.run_length.result left c.split_at.result.0.now c.split_at.result.1.now _ _ later
          (some_left left (sym c.is_empty.ensures ∙ c.loop-left-test.true)) c.run_length.ensures.length c.split_at.ensures.front c.split_at.ensures.back c.end_of-start.ensures refl c.in_ok-print_run.ensures h);
    }

pub returns : goal.returns
returns g c =
    c.loop-left.invariant.printed _ (turns_done c.args.plan.now c.args.log.now.bytes (slice_start c.args.turns.now) c.args.processor c.loop-left.number c.loop-left.start c.loop-left.left.now (g.W.Write.contents c.loop-left.out) (sym c.is_empty.ensures ∙ c.loop-left-test.false))
