use Rattle.boot_report.proofs.Common.{◌≡◌, ◌≤◌, ◌++◌, drop, length, vec_len, vec_capacity, numbered, thread_line}
use Rattle.boot_report.proofs.threads.thread_lines.Given as goal

abbrev pub invariant-loop-number : goal.invariant-loop-number
invariant-loop-number l = record {
  lines : l.lines.items ++ numbered (thread_line l.ended) l.number (drop l.number l.ended.plan.threads) ≡ numbered (thread_line l.ended) 0 l.ended.plan.threads;
  number : vec_len l.lines ≡ l.number;
  room : length l.ended.plan.threads ≤ vec_capacity l.lines;
}
