use Rattle.synth_kernel.proofs.Common.{◌≡◌, ◌≤◌, ◌+◌, map, vec_len, vec_capacity, length, AllZip, into_iter_items, into_iter_len, IsLine, tty_of, TotalsAre, Drawn}
use Rattle.synth_kernel.proofs.gathering.finish_all.Given as goal

abbrev pub invariant-loop-one : goal.invariant-loop-one
invariant-loop-one l = record {
  drawn : Drawn TotalsAre l.fn.served.items l.fn.inputs.items l.yielded (into_iter_items l.one-iterator) (into_iter_items l.inputs) l.reported.items;
  lines : AllZip (λ one input. IsLine input one.line) (into_iter_items l.one-iterator) (into_iter_items l.inputs);
  ttys : l.ttys.items ≡ map tty_of l.yielded;
  tty_room : vec_len l.ttys + into_iter_len l.one-iterator ≤ vec_capacity l.ttys;
  reported_room : vec_len l.reported + into_iter_len l.one-iterator ≤ vec_capacity l.reported;
  left : into_iter_len l.one-iterator ≡ length (into_iter_items l.one-iterator);
  rest : into_iter_len l.inputs ≡ length (into_iter_items l.inputs);
}
