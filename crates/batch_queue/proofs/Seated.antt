-- The seats of ends, at the steps of a call.
use Rattle.batch_queue.proofs.Common.{BatchState, IsSame, IsSeated, View, ap, arith, subst, sym, ℕ, ◌∙◌, ◌≡◌, ◌≤◌}
use Rattle.atomic_table.specs.Seated.{TableId}
use Rattle.atomic_table.specs.declared.shared.Seat.{Seat}
use Rattle.batch_queue.specs.Handles.{IsEndOf}
use Rattle.batch_queue.specs.declared.ends.BatchEnd.{BatchEnd}
use Rattle.batch_queue.specs.declared.ends.BatchQueue.{BatchQueue}

-- the seat of an end of a queue is a live end of the queue's table
pub seated : {C : Type 0} (queue : BatchQueue C) (end : BatchEnd) → IsEndOf queue end → IsSeated queue.room queue.table.shared.table_id end.seat
seated queue end of = record {
  one = of;
  live = subst (λ (z : ℕ). 1 ≤ z) (sym end.one) (omega arith);
  rooms = end.room ∙ (ap (λ (z : TableId). z.slots) of ∙ queue.sized.1);
  words = queue.sized.0;
  slots = queue.sized.1;
  some_room = queue.bounded.0;
  most = queue.bounded.1;
  power = queue.power;
}

-- reads and writes of slots leave the end at its table
pub seated_alike : (room : ℕ) (table : TableId) (old new : Seat ℕ View) → IsSeated room table old → IsSame old new → new.me.0 ≡ old.me.0 → IsSeated room table new
seated_alike room table old new q same is = record {
  one = same.0 ∙ q.one;
  live = subst (λ (z : View). 1 ≤ z.member.ends) (sym is) q.live;
  rooms = ap (λ (z : View). z.first.room) is ∙ q.rooms;
  words = q.words;
  slots = q.slots;
  some_room = q.some_room;
  most = q.most;
  power = q.power;
}

-- an end that goes on at its table is an end of a queue of as many places
pub room_on : (old new : Seat ℕ View) → old.me.0.first.room ≡ old.table_id.slots → new.table_id ≡ old.table_id → new.me.0.first ≡ old.me.0.first → new.me.0.first.room ≡ new.table_id.slots
room_on old new room same first = ap (λ (z : BatchState). z.room) first ∙ (room ∙ sym (ap (λ (z : TableId). z.slots) same))
