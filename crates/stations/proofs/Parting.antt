-- The joint result of a split and of a join of all ends of a list.
use Rattle.stations.proofs.Common.{◌≡◌, ℕ, true, false, List, [], sym, ap, subst, QueueEnd, end_knows_shut, HasRaised, AllThree, IsSplit, IsJoined, AreJoined, AreSplit, View}
use Rattle.table_theory.specs.declared.queues.Batch.{Batch}
use Rattle.table_theory.specs.Listing.{AllRaised}
use Rattle.claim_queue.proofs.Certain.{valid_end, still_shut}
use Rattle.std.proofs.Math.Logic.{∥∥₁_elim}
use Rattle.std.proofs.Math.Bool.{Bool-set}
use Rattle.table_theory.specs.Positioned.{Grows}
use Rattle.claim_queue.specs.declared.rule.QueueOps.{QueueOps}
use Rattle.claim_queue.specs.Handles.{view_of}
use Rattle.claim_queue.proofs.Ordered.{join_grows, join_grows_other}
use Rattle.quajects.proofs.Joining.{raised_both}
use Rattle.stations.proofs.Walking.{at_three, all_three, all_third}

none_raised : (l : List Batch) → l ≡ [] → AllRaised l
none_raised l e = subst AllRaised (sym e) (λ m b at. absurd (cc))

module _ {n : ℕ} where
  -- a queue that either end knew to be shut is shut
  joined_shut : (x y z : QueueEnd n) → IsJoined x y z → (view_of x).seen.object.shut ≡ true → (view_of y).seen.object.shut ≡ true
  joined_shut x y z s k = ∥∥₁_elim (join_grows (view_of x) (view_of z) (view_of y) (valid_end x) (valid_end y) s) (Bool-set _ _) (λ (g : Grows (view_of x).seen.object (view_of y).seen.object). g.shut k)

  joined_other_shut : (x y z : QueueEnd n) → IsJoined x y z → (view_of z).seen.object.shut ≡ true → (view_of y).seen.object.shut ≡ true
  joined_other_shut x y z s k = ∥∥₁_elim (join_grows_other (view_of x) (view_of z) (view_of y) (valid_end z) (valid_end y) s) (Bool-set _ _) (λ (g : Grows (view_of z).seen.object (view_of y).seen.object). g.shut k)

  pub are_split : (old new born : List (QueueEnd n)) → AllThree IsSplit old new born → AreSplit old new born
  are_split old new born h = record {
    each = h;
    raised = λ all. all_three IsSplit HasRaised HasRaised (λ z. Unit {0}) (λ x y z s r t. subst AllRaised (sym (ap (λ (d : QueueOps). d.runs) s.0.own)) r) old new born h all (λ k d l. tt);
    known = at_three IsSplit end_knows_shut end_knows_shut end_knows_shut (λ a b c. a ≡ true → b ≡ true) false (λ k. k) (λ x y z s k. still_shut x y _ s.0.adds k) old new born h;
    born_raised = all_third IsSplit HasRaised (λ x y z s. none_raised _ (ap (λ (v : View). v.own.runs) s.1)) old new born h;
  }

  pub are_joined : (old new others : List (QueueEnd n)) → AllThree IsJoined old new others → AreJoined old others new
  are_joined old new others h = record {
    each = h;
    raised = all_three IsJoined HasRaised HasRaised HasRaised
        (λ x y z s p t. subst AllRaised (sym (ap (λ (d : QueueOps). d.runs) s.own)) (raised_both (view_of x).own.runs (view_of z).own.runs p t)) old new others h;
    known = at_three IsJoined end_knows_shut end_knows_shut end_knows_shut (λ a b c. a ≡ true → b ≡ true) false (λ k. k) (λ x y z s k. joined_shut x y z s k) old new others h;
    others_known = at_three IsJoined end_knows_shut end_knows_shut end_knows_shut (λ a b c. c ≡ true → b ≡ true) false (λ k. k) (λ x y z s k. joined_other_shut x y z s k) old new others h;
  }
