use Rattle.stations.proofs.Signals.{BothUpTo}
use Rattle.stations.proofs.station_splitting.joined.Given as goal

abbrev pub invariant-loop-e : goal.invariant-loop-e
invariant-loop-e l = BothUpTo l.e l.a l.b l.all
