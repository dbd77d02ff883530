use Rattle.thread_table.proofs.Common.{∥∥₁_elim, Hand, IsValidHandView, view_of}
use Rattle.std.proofs.Math.Bridge.{le_prop}
use Rattle.thread_table.proofs.Schedule.Falling.{head_around, heads_in_order, tail_around, tails_in_order}
use Rattle.thread_table.proofs.laws.never_below.Goals as goal

by_both : {X : Type 0} (old new : Hand) → IsProp X → (IsValidHandView (view_of old) → IsValidHandView (view_of new) → X) → X
by_both old new prop f = ∥∥₁_elim old.valid prop (λ (x : IsValidHandView (view_of old)). ∥∥₁_elim new.valid prop (λ (y : IsValidHandView (view_of new)). f x y))

pub returns : goal.returns
returns c = record {
  head = λ old new before rest e ring below a is. (by_both old new le_prop (λ x y. (head_around (view_of old) (view_of new) x y ring below before rest e a is).0), by_both old new le_prop (λ x y. (head_around (view_of old) (view_of new) x y ring below before rest e a is).1));
  heads = λ old new before between rest e f ring below a is is'. by_both old new le_prop (λ x y. heads_in_order (view_of old) (view_of new) x y ring below before between rest e f a is is');
  tail = λ old new before rest e ring below a is. (by_both old new le_prop (λ x y. (tail_around (view_of old) (view_of new) x y ring below before rest e a is).0), by_both old new le_prop (λ x y. (tail_around (view_of old) (view_of new) x y ring below before rest e a is).1));
  tails = λ old new before between rest e f ring below a is is'. by_both old new le_prop (λ x y. tails_in_order (view_of old) (view_of new) x y ring below before between rest e f a is is');
}
