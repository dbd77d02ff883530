use Rattle.stations.proofs.Common.{◌≡◌, ◌≤◌, map, take, length, vec_len, vec_capacity, All, chain_table, chain_end_table, IsIdle, AreSameChainEnds, AreChainEndsOf, IsChainSplit}
use Rattle.stations.proofs.Walking.{AsFar}
use Rattle.stations.proofs.chain_splitting.split_chain_ends_into.Given as goal

abbrev pub invariant-loop-i : goal.invariant-loop-i
invariant-loop-i l = record {
  walk : AsFar IsChainSplit l.initial.ends l.ends l.born.items l.i;
  same : AreSameChainEnds l.initial.ends l.ends;
  ends : AreChainEndsOf l.chains l.ends;
  tables : map chain_end_table l.born.items ≡ map chain_table (take l.i l.chains);
  idle : All IsIdle l.born.items;
  number : vec_len l.born ≡ l.i;
  room : length l.chains ≤ vec_capacity l.born;
}
