use Rattle.std.proofs.Common.{arith}
use Rattle.stations.proofs.Signals.{both_next, both_end}
use Rattle.stations.proofs.station_splitting.joined.Goals as goal

pub returns : goal.returns
returns c = both_end c.loop-e.e c.args.a.now c.args.b.now c.loop-e.all (let past = c.loop-e-test.false in omega arith) c.loop-e.invariant

pub loop-e-preserved : goal.loop-e-preserved
loop-e-preserved c = both_next c.loop-e.e c.args.a.now c.args.b.now c.loop-e.all c.loop-e-test.true c.loop-e.invariant
