use Rattle.boot_threads.proofs.Common.{◌≡◌, bytes_sent, SameIn}
use Rattle.boot_threads.proofs.typing.push_byte.Given as goal

abbrev pub invariant-loop : goal.invariant-loop
invariant-loop g l = record {
  steps : (goal.iterator-loop g).can_next l.iterator' × (goal.iterator-loop g).is_finite l.iterator';
  same : SameIn l.initial.line l.line;
  nothing : bytes_sent l.line ≡ bytes_sent l.initial.line;
}
