use Rattle.boot_report.proofs.Common.{◌≡◌, ◌+◌, ◌++◌, drop, vec_len, vec_capacity, numbered, place_of}
use Rattle.boot_report.proofs.sorting.append.Given as goal

abbrev pub invariant-loop-number : goal.invariant-loop-number
invariant-loop-number l = record {
  items : l.places.items ++ numbered (place_of l.processor) l.number (drop l.number l.heard.lines) ≡ l.fn.places.items ++ numbered (place_of l.processor) 0 l.heard.lines;
  number : vec_len l.places ≡ vec_len l.fn.places + l.number;
  room : vec_capacity l.places ≡ vec_capacity l.fn.places;
}
