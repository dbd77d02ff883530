use Rattle.boot_threads.proofs.Common.{◌≡◌, ◌+◌, ◌≤◌, take, length, vec_len, vec_capacity, into_iter_len, AreTyped}
use Rattle.boot_threads.proofs.typing.type_all.Given as goal

abbrev pub invariant-loop-line : goal.invariant-loop-line
invariant-loop-line g l = record {
  room : vec_len l.typed + into_iter_len l.line-iterator ≤ vec_capacity l.typed;
  number : l.t ≡ length l.yielded;
  rest : l.t + into_iter_len l.line-iterator ≡ length l.ttys;
  typed : AreTyped (take l.t l.ttys) (take l.t l.devices) l.yielded l.typed.items;
}
