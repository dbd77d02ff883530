use Rattle.boot_report.proofs.Common.{◌≡◌, ◌≤◌, ◌++◌, drop, length, vec_len, vec_capacity, numbered, mover_line}
use Rattle.boot_report.proofs.movers.mover_lines.Given as goal

abbrev pub invariant-loop-number : goal.invariant-loop-number
invariant-loop-number l = record {
  lines : l.lines.items ++ numbered (mover_line l.counts) l.number (drop l.number l.movers) ≡ numbered (mover_line l.counts) 0 l.movers;
  number : vec_len l.lines ≡ l.number;
  room : length l.movers ≤ vec_capacity l.lines;
}
