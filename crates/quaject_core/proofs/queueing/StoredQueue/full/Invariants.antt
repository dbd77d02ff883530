use Rattle.quaject_core.proofs.Common.{◌≡◌, map, range_with_len}
use Rattle.quaject_core.proofs.Stored.Full.{single_span, raised_place}
use Rattle.quaject_core.proofs.queueing.StoredQueue.full.Given as goal

-- So far each item has a run and a place.
abbrev pub invariant-loop-number : goal.invariant-loop-number
invariant-loop-number l = record {
  runs : l.runs.items ≡ map single_span (range_with_len 0 l.number);
  places : l.places.items ≡ map raised_place (range_with_len 0 l.number);
}
