use Rattle.synth_kernel.proofs.Common.{◌≡◌, ◌++◌, vec_capacity, length, into_iter_items, into_iter_len, processed_in, served_in, all_there}
use Rattle.synth_kernel.proofs.gathering.sort_backs.Given as goal

abbrev pub invariant-loop-back : goal.invariant-loop-back
invariant-loop-back g l = record {
  parts : l.yielded ++ into_iter_items l.back-iterator ≡ l.fn.backs.items;
  left : into_iter_len l.back-iterator ≡ length (into_iter_items l.back-iterator);
  processed : l.processed.items ≡ processed_in l.yielded;
  served : l.served.items ≡ served_in l.yielded;
  all : l.all ≡ all_there l.yielded;
  room : vec_capacity l.processed ≡ vec_capacity l.fn.processed;
  served_room : vec_capacity l.served ≡ vec_capacity l.fn.served;
}
