use Rattle.thread_table.proofs.Common.{∥∥₁_elim, Hand, view_of, IsValidHandView}
use mathlib.Core.HLevel.{⊥_prop}
use Rattle.thread_table.proofs.Events.Lone.{take_not_lost, before_not_lost, move_not_lost, wait_not_lost, start_not_lost, park_not_lost, deliver_not_lost}
use Rattle.thread_table.proofs.laws.only_hands_are_never_lost.Goals as goal

-- what can't be of honest hands can't be
never : (old new : Hand) → (IsValidHandView (view_of old) → IsValidHandView (view_of new) → ⊥) → ⊥
never old new wrong = ∥∥₁_elim old.valid ⊥_prop (λ (x : IsValidHandView (view_of old)). ∥∥₁_elim new.valid ⊥_prop (λ (y : IsValidHandView (view_of new)). wrong x y))

pub returns : goal.returns
returns c = record {
  takes = λ old new call ring seen below whole lost. never old new (λ x y. take_not_lost (view_of old) (view_of new) call ring seen below whole x y lost);
  befores = λ old new call ring head seen below whole lost. never old new (λ x y. before_not_lost (view_of old) (view_of new) call ring head seen below whole x y lost);
  moves = λ old new call ring element seen below whole lost. never old new (λ x y. move_not_lost (view_of old) (view_of new) call ring element seen below whole x y lost);
  waits = λ old new call wait element ticket seen below whole lost. never old new (λ x y. wait_not_lost (view_of old) (view_of new) call wait element ticket seen below whole x y lost);
  starts = λ old new call element r known whole lost. never old new (λ x y. start_not_lost (view_of old) (view_of new) call element r known whole x y lost);
  parks = λ old new call element r known whole lost. never old new (λ x y. park_not_lost (view_of old) (view_of new) call element r known whole x y lost);
  delivers = λ old new call element r known whole lost. never old new (λ x y. deliver_not_lost (view_of old) (view_of new) call element r known whole x y lost);
}
