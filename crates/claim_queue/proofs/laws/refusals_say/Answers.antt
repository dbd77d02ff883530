use Rattle.claim_queue.proofs.Common.{Bool-set, le_prop, ℕ_set, ◌≡◌, ℕ, ◌-◌, ◌<◌, true, List, length, stage_at, tail_of, QueueEnd, Empty, RefusedTake, IsNone, IsOne, IsBegun, IsLine, stop_position, view_of}
use Rattle.claim_queue.specs.declared.take.TakeRefusal.TheVariants.{Closed}
use Rattle.claim_queue.proofs.Certain.{by_both, seen_room}
use Rattle.claim_queue.proofs.Saying.{closed_says, full_says, done_says, empty_says}
use Rattle.claim_queue.proofs.laws.refusals_say.Goals as goal

done : (n : ℕ) (Few Enough : List ℕ → Type 0) (old new : QueueEnd n) → RefusedTake Few Enough n (view_of old) Closed (view_of new) → ((view_of new).seen.object.shut ≡ true) × ((view_of new).seen.object.taken ≡ length (view_of new).seen.object.places)
done n Few Enough old new r = (
  by_both old new (Bool-set _ _) (λ x y. (done_says (view_of old) (view_of new) x y Few Enough n r).0),
  by_both old new (ℕ_set _ _) (λ x y. (done_says (view_of old) (view_of new) x y Few Enough n r).1),
)

empty : (n : ℕ) (Few Enough : List ℕ → Type 0) (old new : QueueEnd n) (at : ℕ) (r : RefusedTake Few Enough n (view_of old) (Empty at) (view_of new)) → length r.0.scan < n
    → (tail_of r.0.at_flag.object ≡ r.0.tail) × (stage_at r.0.at_flag.object (stop_position r.0 - r.0.at_flag.object.first) < 2) × (r.2.object.shut ≡ true → r.2.object.taken < length r.2.object.places)
empty n Few Enough old new at r short = (
  by_both old new (ℕ_set _ _) (λ x y. (empty_says (view_of old) (view_of new) x y Few Enough n at r (seen_room old) short).0),
  by_both old new le_prop (λ x y. (empty_says (view_of old) (view_of new) x y Few Enough n at r (seen_room old) short).1),
  (λ shut. by_both old new le_prop (λ x y. (empty_says (view_of old) (view_of new) x y Few Enough n at r (seen_room old) short).2 shut)),
)

pub returns : goal.returns
returns c = record {
  closed = λ n old new count r. by_both old new (Bool-set _ _) (λ x y. closed_says (view_of old) (view_of new) x y _ count r);
  full = λ n old new count head tail r. by_both old new le_prop (λ x y. full_says (view_of old) (view_of new) x y _ count head tail r);
  done = λ n old new. (done n IsNone IsOne old new, done n (IsBegun n) (IsLine n) old new);
  empty = λ n old new at. (empty n IsNone IsOne old new at, empty n (IsBegun n) (IsLine n) old new at);
}
