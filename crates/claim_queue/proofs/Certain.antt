-- Facts that are certain if an end's list is true: the proof of that is truncated, and decidable facts need none.
use Rattle.claim_queue.proofs.Common.{◌≡◌, ℕ, ◌≤◌, ◌<◌, ap, true, List, ◌∙◌, arith, ∥∥₁_elim, ∥∥₁_map, Bool-set, le_prop, ℕ_set, Positions, AbsState, Step, ExtendsTrace, IsValidView, Grows, tail_of, reaches_since, QueueEnd, view_of, View, of_queues, Distinct}
use Rattle.table_theory.proofs.Certainty as surely
use Rattle.claim_queue.proofs.Growing.{reaches_grow}
use Rattle.claim_queue.proofs.Reading.{room_of, distinct_runs}
use Rattle.claim_queue.proofs.Stepping.{honest}

pub valid_end : {n : ℕ} (end : QueueEnd n) → ∥ IsValidView of_queues (view_of end) ∥₁
valid_end end = ∥∥₁_map end.ruled (λ r. honest (view_of end) r)

-- what both ends' lists make certain
pub by_both : {n : ℕ} {X : Type 0} (old new : QueueEnd n) → IsProp X → (IsValidView of_queues (view_of old) → IsValidView of_queues (view_of new) → X) → X
by_both old new prop f = surely.by_both of_queues (view_of old) (view_of new) (valid_end old) (valid_end new) prop f

-- the queue grows from what the end had seen to what it sees
pub grows_since : (v w : View) (entries : List (Step Positions)) → ExtendsTrace v entries w → IsValidView of_queues v → IsValidView of_queues w → Grows v.seen.object w.seen.object
grows_since v w entries a x y = reaches_grow v.seen w.seen (reaches_since of_queues v w entries x y a)

pub still_shut : {n : ℕ} (old new : QueueEnd n) (entries : List (Step Positions)) → ExtendsTrace (view_of old) entries (view_of new) → (view_of old).seen.object.shut ≡ true → (view_of new).seen.object.shut ≡ true
still_shut old new entries a shut = by_both old new (Bool-set _ _) (λ x y. (grows_since (view_of old) (view_of new) entries a x y).shut shut)

pub tail_goes_on : {n : ℕ} (old new : QueueEnd n) (entries : List (Step Positions)) → ExtendsTrace (view_of old) entries (view_of new) → tail_of (view_of old).seen.object ≤ tail_of (view_of new).seen.object
tail_goes_on old new entries a = by_both old new le_prop (λ x y. (let g = grows_since (view_of old) (view_of new) entries a x y in let f = g.first in let m = g.further in omega arith))

pub seen_room : {n : ℕ} (end : QueueEnd n) → (view_of end).seen.object.room ≡ n
seen_room end = ∥∥₁_elim end.ruled (ℕ_set _ _) (λ r. room_of (view_of end) r ∙ end.room)

-- it has a place
pub some_room : {n : ℕ} (end : QueueEnd n) → 0 < n
some_room {n} end = ∥∥₁_elim end.ruled le_prop (λ r. (let same = room_of (view_of end) r ∙ end.room in let more = r.rule.stands.shows.window.some_room in let e = ap (λ (z : AbsState Positions). z.object.room) r.seen in omega arith))

-- no two runs of an end have one start
pub distinct_end : {n : ℕ} (end : QueueEnd n) → Distinct (view_of end).own.runs
distinct_end end m k e f at at' same = ∥∥₁_elim end.ruled (ℕ_set _ _) (λ r. distinct_runs (view_of end) r m k e f at at' same)
