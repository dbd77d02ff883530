use Rattle.boot_threads.proofs.Common.{◌≡◌, ◌++◌, take, bytes_sent, SameIn}
use Rattle.boot_threads.proofs.typing.type_bytes.Given as goal

abbrev pub invariant-loop-byte : goal.invariant-loop-byte
invariant-loop-byte g l = record {
  same : SameIn l.initial.line l.line;
  sent : bytes_sent l.line ≡ bytes_sent l.initial.line ++ take l.byte-index l.bytes;
}
