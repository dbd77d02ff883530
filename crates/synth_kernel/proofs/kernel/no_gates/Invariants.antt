use Rattle.synth_kernel.proofs.Common.{◌≡◌, ◌≤◌, vec_len, vec_capacity}
use Rattle.synth_kernel.proofs.kernel.no_gates.Given as goal

abbrev pub invariant-loop-number : goal.invariant-loop-number
invariant-loop-number l = record {
  room : l.processors ≤ vec_capacity l.gates;
  number : vec_len l.gates ≡ l.number;
}
