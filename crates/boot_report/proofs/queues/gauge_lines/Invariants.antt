use Rattle.boot_report.proofs.Common.{◌≡◌, ◌≤◌, ◌++◌, drop, length, vec_len, vec_capacity, numbered, gauge_line}
use Rattle.boot_report.proofs.queues.gauge_lines.Given as goal

abbrev pub invariant-loop-number : goal.invariant-loop-number
invariant-loop-number l = record {
  lines : l.lines.items ++ numbered (gauge_line l.values) l.number (drop l.number l.names) ≡ numbered (gauge_line l.values) 0 l.names;
  number : vec_len l.lines ≡ l.number;
  room : length l.names ≤ vec_capacity l.lines;
}
