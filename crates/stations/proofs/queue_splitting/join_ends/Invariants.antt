use Rattle.stations.proofs.Common.{◌≡◌, ◌++◌, length, into_iter_items, into_iter_len, AreSameEnds, IsJoined}
use Rattle.stations.proofs.Walking.{AsFar}
use Rattle.stations.proofs.queue_splitting.join_ends.Given as goal

abbrev pub invariant-loop-other : goal.invariant-loop-other
invariant-loop-other g l = record {
  walk : AsFar IsJoined l.initial.ends l.ends l.yielded l.i;
  same : AreSameEnds l.initial.ends l.ends;
  number : l.i ≡ length l.yielded;
  parts : l.yielded ++ into_iter_items l.other-iterator ≡ into_iter_items l.initial.other-iterator;
  left : into_iter_len l.other-iterator ≡ length (into_iter_items l.other-iterator);
}
