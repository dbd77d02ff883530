use Rattle.claim_queue.proofs.Common.{view_of, IsNone, IsOne, IsBegun, IsLine}
use mathlib.Core.HLevel.{⊥_prop}
use Rattle.claim_queue.proofs.Certain.{by_both}
use Rattle.claim_queue.proofs.Saying.{claim_not_lost, take_not_lost}
use Rattle.claim_queue.proofs.laws.only_ends_are_never_lost.Goals as goal

pub returns : goal.returns
returns c = record {
  claim = λ n old new count head whole r. by_both old new ⊥_prop (λ x y. claim_not_lost (view_of old) (view_of new) x y _ count head whole r);
  take = λ n old new tail whole. (
    (λ r. by_both old new ⊥_prop (λ x y. take_not_lost (view_of old) (view_of new) x y IsNone IsOne n tail whole r)),
    (λ r. by_both old new ⊥_prop (λ x y. take_not_lost (view_of old) (view_of new) x y (IsBegun n) (IsLine n) n tail whole r)),
  );
}
