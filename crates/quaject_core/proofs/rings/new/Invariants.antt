use Rattle.quaject_core.proofs.Common.{◌≡◌, [], ◌∷◌, ◌+◌, map, vec_len, repeat, empty_queue, full_queue, queue}
use Rattle.quaject_core.proofs.rings.new.Given as goal

-- The first two rings and so many wait queues.
abbrev pub invariant-loop : goal.invariant-loop
invariant-loop l = record {
  what : map queue l.rings.items ≡ empty_queue l.fn.count ∷ full_queue l.fn.count ∷ repeat l.counter (empty_queue l.fn.count ∷ []);
  count : vec_len l.rings ≡ 2 + l.counter;
}
