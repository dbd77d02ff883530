-- Facts that are certain if an end's list is true: the proof of that is truncated, and decidable facts need none.
use Rattle.batch_queue.proofs.Common.{BatchState, Grows, IsValidView, InvHeldOf, List, AbsState, Step, View, ap, of_batches, sym, true, ◌∙◌, ◌≡◌, ◌≤◌}
use Rattle.std.proofs.Math.Bool.{Bool-set}
use Rattle.std.proofs.Math.Bridge.{le_prop}
use Rattle.std.proofs.Math.Logic.{∥∥₁_elim, ∥∥₁_map}
use Rattle.std.proofs.Math.Nat.{ℕ_set}
use Rattle.table_theory.specs.Ledgers.{ExtendsTrace}
use Rattle.table_theory.proofs.Certainty as surely
use Rattle.table_theory.proofs.Reaching.{reaches_since}
use Rattle.batch_queue.specs.declared.ends.BatchEnd.{BatchEnd}
use Rattle.batch_queue.specs.declared.ends.BatchQueue.{BatchQueue}
use Rattle.batch_queue.specs.Handles.{view_of, room_of, IsEndOf}
use Rattle.atomic_table.specs.Seated.{TableId}
use Rattle.batch_queue.proofs.Growing.{reaches_grow}
use Rattle.batch_queue.proofs.Stepping.{first_room, honest}

pub valid_end : (end : BatchEnd) → ∥ IsValidView of_batches (view_of end) ∥₁
valid_end end = ∥∥₁_map end.ruled (λ r. honest (view_of end) r)

-- what both ends' lists make certain
pub by_both : {X : Type 0} (old new : BatchEnd) → IsProp X → (IsValidView of_batches (view_of old) → IsValidView of_batches (view_of new) → X) → X
by_both old new prop f = surely.by_both of_batches (view_of old) (view_of new) (valid_end old) (valid_end new) prop f

-- the queue grows from what the end had seen to what it sees
grows_since : (v w : View) (entries : List (Step BatchState)) → ExtendsTrace v entries w → IsValidView of_batches v → IsValidView of_batches w → Grows v.seen.object w.seen.object
grows_since v w entries a x y = reaches_grow v.seen w.seen (reaches_since of_batches v w entries x y a)

pub still_shut : (old new : BatchEnd) (entries : List (Step BatchState)) → ExtendsTrace (view_of old) entries (view_of new) → (view_of old).seen.object.shut ≡ true → (view_of new).seen.object.shut ≡ true
still_shut old new entries a shut = by_both old new (Bool-set _ _) (λ x y. (grows_since (view_of old) (view_of new) entries a x y).shut shut)

pub tail_goes_on : (old new : BatchEnd) (entries : List (Step BatchState)) → ExtendsTrace (view_of old) entries (view_of new) → (view_of old).seen.object.taken ≤ (view_of new).seen.object.taken
tail_goes_on old new entries a = by_both old new le_prop (λ x y. (grows_since (view_of old) (view_of new) entries a x y).taken)

-- the number of places is in what the end knows from the beginning
pub room_seen : (w : View) → InvHeldOf w → w.seen.object.room ≡ w.first.room
room_seen w r = ap (λ (z : AbsState BatchState). z.object.room) r.seen ∙ sym (first_room r.key r.state r.rule r.number w r.here)

pub seen_room : {C : Type 0} (queue : BatchQueue C) (end : BatchEnd) → IsEndOf queue end → (view_of end).seen.object.room ≡ room_of queue
seen_room queue end is = ∥∥₁_elim end.ruled (ℕ_set _ _) (λ r. room_seen (view_of end) r ∙ (end.room ∙ (ap (λ (t : TableId). t.slots) is ∙ queue.sized.1)))
