use Rattle.stations.proofs.Common.{◌≡◌, ◌≤◌, map, take, length, vec_len, vec_capacity, queue_table, end_table, AreSameEnds, IsSplit}
use Rattle.stations.proofs.Walking.{AsFar}
use Rattle.stations.proofs.queue_splitting.split_ends_into.Given as goal

abbrev pub invariant-loop-i : goal.invariant-loop-i
invariant-loop-i g l = record {
  walk : AsFar IsSplit l.initial.ends l.ends l.born.items l.i;
  same : AreSameEnds l.initial.ends l.ends;
  tables : map end_table l.born.items ≡ map queue_table (take l.i l.queues);
  number : vec_len l.born ≡ l.i;
  room : length l.queues ≤ vec_capacity l.born;
}
