use Rattle.std.proofs.Common.{◌≡◌, take, map, length}
use Rattle.bindings.specs.HandCalls.{c_place}
use Rattle.bindings.proofs.hand.places.places_for_c.Given as goal

abbrev pub invariant-loop-i : goal.invariant-loop-i
invariant-loop-i l = record {
  reported : take l.i l.reported ≡ map c_place (take l.i l.places);
  long : length l.reported ≡ 64;
}
