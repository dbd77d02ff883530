use Rattle.meters.proofs.Common.{of_meters, view_of}
use Rattle.table_theory.proofs.Certainty.{by_both}
use mathlib.Core.HLevel.{⊥_prop}
use Rattle.meters.proofs.Lone.{clock_not_lost, slot_not_lost, never_lost_clock, never_lost_slot}
use Rattle.meters.proofs.laws.only_ends_are_never_lost.Goals as goal

pub returns : goal.returns
returns c = record {
  clock = λ old new clock whole quiet lost. by_both of_meters (view_of old) (view_of new) old.valid new.valid ⊥_prop (λ x y. never_lost_clock (view_of old) (view_of new) whole x y quiet clock lost);
  slot = λ old new slot whole quiet lost. by_both of_meters (view_of old) (view_of new) old.valid new.valid ⊥_prop (λ x y. never_lost_slot (view_of old) (view_of new) whole x y quiet slot lost);
  advance = λ old new clock whole lost. by_both of_meters (view_of old) (view_of new) old.valid new.valid ⊥_prop (λ x y. clock_not_lost (view_of old) (view_of new) clock whole x y lost);
  set = λ old new slot whole lost. by_both of_meters (view_of old) (view_of new) old.valid new.valid ⊥_prop (λ x y. slot_not_lost (view_of old) (view_of new) slot whole x y lost);
}
