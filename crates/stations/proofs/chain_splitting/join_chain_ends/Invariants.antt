use Rattle.stations.proofs.Common.{◌≡◌, ◌++◌, length, into_iter_items, into_iter_len, AreSameChainEnds, AreChainEndsOf, IsChainJoined}
use Rattle.stations.proofs.Walking.{AsFar}
use Rattle.stations.proofs.chain_splitting.join_chain_ends.Given as goal

abbrev pub invariant-loop-other : goal.invariant-loop-other
invariant-loop-other l = record {
  walk : AsFar IsChainJoined l.initial.ends l.ends l.yielded l.i;
  same : AreSameChainEnds l.initial.ends l.ends;
  ends : AreChainEndsOf l.chains l.ends;
  number : l.i ≡ length l.yielded;
  parts : l.yielded ++ into_iter_items l.other-iterator ≡ into_iter_items l.initial.other-iterator;
  left : into_iter_len l.other-iterator ≡ length (into_iter_items l.other-iterator);
}
