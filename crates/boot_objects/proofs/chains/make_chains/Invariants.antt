use Rattle.boot_objects.proofs.Common.{◌+◌, ◌≤◌, vec_len, vec_capacity, into_iter_items, into_iter_len, IsReady, MadeChains}
use Rattle.std.proofs.Common.{All}
use Rattle.boot_objects.proofs.chains.make_chains.Given as goal

abbrev pub invariant-loop-quaject : goal.invariant-loop-quaject
invariant-loop-quaject l = record {
  room : vec_len l.chains + into_iter_len l.quaject-iterator ≤ vec_capacity l.chains;
  room_too : vec_len l.ends + into_iter_len l.quaject-iterator ≤ vec_capacity l.ends;
  ready : All (IsReady l.queues) (into_iter_items l.quaject-iterator);
  made : MadeChains l.queues l.yielded l.chains.items l.ends.items;
}
