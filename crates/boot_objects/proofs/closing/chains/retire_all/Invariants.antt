use Rattle.boot_objects.proofs.Common.{◌≡◌, ◌≤◌, length, vec_len, vec_capacity, into_iter_items, into_iter_len, HasRetired, IsFew, All}
use Rattle.boot_objects.proofs.Drawing.{Drawn}
use Rattle.boot_objects.proofs.closing.chains.retire_all.Given as goal

abbrev pub invariant-loop-chain : goal.invariant-loop-chain
invariant-loop-chain l = record {
  drawn : Drawn HasRetired l.fn.chains.items l.fn.ends.items l.yielded (into_iter_items l.chain-iterator) (into_iter_items l.ends) l.homes.items;
  left : into_iter_len l.chain-iterator ≡ length (into_iter_items l.chain-iterator);
  rest : into_iter_len l.ends ≡ length (into_iter_items l.ends);
  number : vec_len l.homes ≡ length l.yielded;
  few : All IsFew l.homes.items;
  room : length l.fn.chains.items ≤ vec_capacity l.homes;
}
