use Rattle.quaject_core.proofs.Common.{◌≡◌, ap, arith, length, renamed_span}
use Rattle.quaject_core.proofs.Stored.Joins.{changed_whole, renamed_more}
use Rattle.quaject_core.proofs.queueing.rename.Goals as goal

pub loop-run-preserved : goal.loop-run-preserved
loop-run-preserved c =
    let n : length c.deref_mut-run-items.result.now ≡ length c.args.runs.now.items = ap length c.deref_mut-run-items.ensures.value in
    renamed_more c.args.call c.args.other c.loop-run.run-index c.renamed-run.result c.args.runs.now.items c.loop-run.run-items c.run-item.result c.loop-run.invariant
    (omega (arith, n, c.loop-run-test.true)) c.renamed-run.ensures

pub returns : goal.returns
returns c =
    let n : length c.deref_mut-run-items.result.now ≡ length c.args.runs.now.items = ap length c.deref_mut-run-items.ensures.value in
    changed_whole (renamed_span c.args.call c.args.other) c.args.runs.now.items c.loop-run.run-items c.loop-run.run-index c.args.runs.now.len c.loop-run.invariant
    (omega (arith, n, c.loop-run-test.false)) (omega (arith, c.args.runs.now.ok))
