use Rattle.boot_report.proofs.Common.{◌≡◌, ◌≤◌, ◌+◌, ◌++◌, drop, length, vec_len, vec_capacity}
use Rattle.boot_report.proofs.Placing.{places_from}
use Rattle.boot_report.proofs.sorting.gather.Given as goal

abbrev pub invariant-loop-processor : goal.invariant-loop-processor
invariant-loop-processor l = record {
  items : l.places.items ++ places_from l.processor (drop l.processor l.heard) ≡ places_from 0 l.heard;
  room : vec_len l.places + length (places_from l.processor (drop l.processor l.heard)) ≤ vec_capacity l.places;
}
