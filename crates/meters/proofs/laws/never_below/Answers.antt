use Rattle.meters.proofs.Common.{∥∥₁_elim, IsValidView, of_meters, view_of}
use Rattle.std.proofs.Math.Bridge.{le_prop}
use Rattle.meters.specs.declared.ends.MeterSeat.{MeterSeat}
use Rattle.meters.proofs.Falling.{clock_at, clock_around, clocks_in_order}
use Rattle.meters.proofs.laws.never_below.Goals as goal

by_both : {X : Type 0} (old new : MeterSeat) → IsProp X → (IsValidView of_meters (view_of old) → IsValidView of_meters (view_of new) → X) → X
by_both old new prop f = ∥∥₁_elim old.valid prop (λ (x : IsValidView of_meters (view_of old)). ∥∥₁_elim new.valid prop (λ (y : IsValidView of_meters (view_of new)). f x y))

pub returns : goal.returns
returns c = record {
  moment = λ old new clock s. (by_both old new le_prop (λ x y. (clock_at (view_of old) (view_of new) x y clock s).0), by_both old new le_prop (λ x y. (clock_at (view_of old) (view_of new) x y clock s).1));
  clock = λ old new before after e a is. (by_both old new le_prop (λ x y. (clock_around (view_of old) (view_of new) x y before after e a is).0), by_both old new le_prop (λ x y. (clock_around (view_of old) (view_of new) x y before after e a is).1));
  clocks = λ old new before between after e f a is is'. by_both old new le_prop (λ x y. clocks_in_order (view_of old) (view_of new) x y before between after e f a is is');
}
