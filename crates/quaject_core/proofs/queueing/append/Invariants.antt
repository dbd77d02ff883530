use Rattle.quaject_core.proofs.Common.{◌≡◌, ◌+◌, ◌-◌, ◌≤◌, ◌++◌, length, map, take, vec_len, vec_capacity, fresh}
use Rattle.quaject_core.proofs.queueing.append.Given as goal

-- The items so far have places, and there is room for the others.
abbrev pub invariant-loop-item : goal.invariant-loop-item
invariant-loop-item l = record {
  places : l.places.items ≡ l.fn.places.items ++ map fresh (take l.item-index l.items);
  room : vec_len l.places + (length l.items - l.item-index) ≤ vec_capacity l.places;
}
