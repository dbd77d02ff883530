use Rattle.boot_report.proofs.Common.{◌≡◌, ◌≤◌, ◌++◌, drop, length, vec_len, vec_capacity, numbered, queue_line}
use Rattle.boot_report.proofs.queues.queue_lines.Given as goal

abbrev pub invariant-loop-number : goal.invariant-loop-number
invariant-loop-number l = record {
  lines : l.lines.items ++ numbered (queue_line l.small) l.number (drop l.number l.queues) ≡ numbered (queue_line l.small) 0 l.queues;
  number : vec_len l.lines ≡ l.number;
  room : length l.queues ≤ vec_capacity l.lines;
}
