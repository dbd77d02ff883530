use Rattle.boot_script.proofs.Common.{◌≡◌, ◌≤◌, length, take, Consumes}
use Rattle.boot_script.proofs.Input.Calling.{SoFar}
use Rattle.boot_script.proofs.reading.read_script.Given as goal

-- The front of the buffer is what was taken from the reader, in so many calls.
abbrev pub invariant-loop : goal.invariant-loop
invariant-loop g l = record {
  bytes : Consumes (g.R.Read.remaining l.fn.reader) (g.R.Read.remaining l.reader) (take l.filled l.buffer);
  short : l.filled ≤ 65536;
  sized : length l.buffer ≡ 65537;
  called : SoFar g.R.Source.answers l.counter l.filled l.fn.reader l.reader;
}
