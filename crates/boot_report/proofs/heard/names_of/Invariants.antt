use Rattle.boot_report.proofs.Common.{◌≡◌, ◌≤◌, map, take, length, vec_len, vec_capacity, name_of}
use Rattle.boot_report.proofs.heard.names_of.Given as goal

abbrev pub invariant-loop-thread : goal.invariant-loop-thread
invariant-loop-thread l = record {
  names : l.names.items ≡ map name_of (take l.thread-index l.threads);
  number : vec_len l.names ≡ l.thread-index;
  room : length l.threads ≤ vec_capacity l.names;
}
