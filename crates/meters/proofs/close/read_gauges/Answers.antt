use Rattle.meters.proofs.Common.{sym, ◌∙◌, arith, length-set}
use Rattle.std.specs.Mem.Slots.{slots_counts}
use Rattle.meters.proofs.Settling.{gauge_read}
use Rattle.meters.proofs.Betweens.{gauges_by}
use Rattle.meters.proofs.close.read_gauges.Goals as goal

pub loop-gauge-preserved : goal.loop-gauge-preserved
loop-gauge-preserved c = let old = c.loop-gauge.invariant in record {
  eight = length-set c.loop-gauge.gauges c.loop-gauge.gauge c.word.result ∙ old.eight;
  each = gauge_read _ c.loop-gauge.gauges c.loop-gauge.gauge _ old.eight c.loop-gauge-test.true old.each c.word.ensures;
}

pub returns : goal.returns
returns c = let old = c.loop-gauge.invariant in let past = c.loop-gauge-test.false in gauges_by _ _ (sym (slots_counts c.args.closed.now.words).0 ∙ c.requires.0) old.eight (λ g b. old.each g (omega arith))
