use Rattle.boot_report.proofs.Common.{◌≡◌, ◌≤◌, ◌++◌, drop, length, vec_len, vec_capacity, numbered, tty_lines}
use Rattle.boot_report.proofs.ttys.lines_of_ttys.Given as goal

abbrev pub invariant-loop-number : goal.invariant-loop-number
invariant-loop-number l = record {
  lines : l.lines.items ++ numbered (tty_lines l.ended l.typed) l.number (drop l.number l.ended.plan.ttys) ≡ numbered (tty_lines l.ended l.typed) 0 l.ended.plan.ttys;
  number : vec_len l.lines ≡ l.number;
  room : length l.ended.plan.ttys ≤ vec_capacity l.lines;
}
