use Rattle.boot_threads.proofs.Common.{◌≡◌, ◌+◌, ◌<◌, ◌≤◌, ℕ, length, vec_len, vec_capacity, into_iter_len, IsFree, IsPrepared, BootPlan, CanSplit, NoneOn, ArePosted, ArePartsOf, view_of}
use Rattle.boot_threads.proofs.stationing.post_all.Given as goal

abbrev pub invariant-loop-gate : goal.invariant-loop-gate
invariant-loop-gate g l = record {
  room : vec_len l.works + into_iter_len l.gate-iterator ≤ vec_capacity l.works;
  capacity : vec_capacity l.works ≡ vec_capacity l.fn.works;
  number : l.number ≡ length l.yielded;
  rest : l.number + into_iter_len l.gate-iterator ≡ vec_len l.fn.gates;
  few : l.number + into_iter_len l.gate-iterator ≤ 8;
  parts : ArePartsOf l.shared l.station.parts;
  split : CanSplit (into_iter_len l.gate-iterator) l.station.parts;
  free : (k : ℕ) → l.number ≤ k → k < 8 → IsFree k (view_of l.station.parts.hand);
  none_on : NoneOn l.fn.station.parts → NoneOn l.station.parts;
  prepared : (plan : BootPlan) → IsPrepared plan l.fn.station.parts → IsPrepared plan l.station.parts;
  heard : l.station.parts.heard ≡ l.fn.station.parts.heard;
  posted : ArePosted l.shared 0 l.turns l.yielded l.fn.station.parts l.station.parts l.works.items;
}
