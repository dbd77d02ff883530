-- What a station's end of a queue did, by the queue's index: its runs and its takings with their positions.
use Rattle.boot_laws.proofs.Common.{Option, ◌≡◌, ℕ, zero, suc, List, [], ◌∷◌, refl, sym, ap, ◌∙◌, arith, Some, All, BootPlan, QueueIndex, Small, Large, QueueEnd, AtQueue, Stake, lines_of, room_of, stakes, no_stake, stake, Ascending, Parts, Account, account, AreJoined, QueueOps, view_of, nothing_did, did_both, AreInOrder, ClaimedInOrder, TookInOrder, IsPrepared}
use Rattle.std.specs.List.{slice_get}
use Rattle.stations.proofs.Stakes.{joined_at}
use Rattle.turn_io.proofs.Shares.{none_of}
use Rattle.table_theory.proofs.Ordering.{order_none}
use Rattle.boot_laws.proofs.Joined.{at_its}

-- the end that a station has of the queue
abbrev pub end_at : (index : QueueIndex) → Parts → Option (QueueEnd (room_of index))
end_at (Small q) parts = slice_get parts.queues.small.items q
end_at (Large q) parts = slice_get parts.queues.large.items q

-- what the station's end of the queue did
abbrev pub did_at : QueueIndex → Parts → QueueOps
did_at (Small q) parts = (stakes parts.queues.small.items q).did
did_at (Large q) parts = (stakes parts.queues.large.items q).did

pub lines_are : (index : QueueIndex) (parts : Parts) → (account parts).queues index ≡ lines_of (did_at index parts)
lines_are (Small q) parts = refl
lines_are (Large q) parts = refl

-- a join appends the work of the other to its own
pub did_joined : (index : QueueIndex) (a b c : Parts) → AreJoined a b c → did_at index c ≡ did_both (did_at index a) (did_at index b)
did_joined (Small q) a b c j = ap (λ (f : ℕ → Stake QueueOps). (f q).did) (joined_at a.queues.small.items c.queues.small.items b.queues.small.items j.queues.small.each)
did_joined (Large q) a b c j = ap (λ (f : ℕ → Stake QueueOps). (f q).did) (joined_at a.queues.large.items c.queues.large.items b.queues.large.items j.queues.large.each)

-- what is so of what each end did, and of nothing, is so of what is done at each queue
stake_has : {n : ℕ} (P : QueueOps → Type 0) (Q : QueueEnd n → Type 0) → P nothing_did → ((end : QueueEnd n) → Q end → P (view_of end).own) → (ends : List (QueueEnd n)) (q : ℕ) → All Q ends → P (stakes ends q).did
stake_has P Q none one [] q h = none
stake_has P Q none one (x ∷ ends) zero h = one x (h 0 x (omega arith))
stake_has P Q none one (x ∷ ends) (suc q) h = stake_has P Q none one ends q (λ k d low. h (suc k) d (omega arith))

-- what the end did that the station has of the queue
pub its_did : (index : QueueIndex) (parts : Parts) (end : QueueEnd (room_of index)) → end_at index parts ≡ Some end → did_at index parts ≡ (view_of end).own
its_did (Small q) parts end e = ap (λ (s : Stake QueueOps). s.did) (at_its stake parts.queues.small.items q end (no_stake nothing_did) e)
its_did (Large q) parts end e = ap (λ (s : Stake QueueOps). s.did) (at_its stake parts.queues.large.items q end (no_stake nothing_did) e)

pub runs_up : (index : QueueIndex) (parts : Parts) → AreInOrder parts.queues → Ascending (did_at index parts).runs
runs_up (Small q) parts h = stake_has (λ d. Ascending d.runs) ClaimedInOrder order_none.0 (λ end h. h.0) parts.queues.small.items q h.small.0
runs_up (Large q) parts h = stake_has (λ d. Ascending d.runs) ClaimedInOrder order_none.0 (λ end h. h.0) parts.queues.large.items q h.large.0

pub takes_up : (index : QueueIndex) (parts : Parts) → AreInOrder parts.queues → Ascending (did_at index parts).takes
takes_up (Small q) parts h = stake_has (λ d. Ascending d.takes) TookInOrder order_none.0 (λ end h. h.0.0) parts.queues.small.items q h.small.1
takes_up (Large q) parts h = stake_has (λ d. Ascending d.takes) TookInOrder order_none.0 (λ end h. h.0.0) parts.queues.large.items q h.large.1

-- the first station put and took nothing
pub none_first : (index : QueueIndex) (plan : BootPlan) (first : Parts) → IsPrepared plan first → ((did_at index first).runs ≡ []) × ((did_at index first).takes ≡ [])
none_first index plan first begun =
    let none = sym (lines_are index first) ∙ ap (λ (a : Account). a.queues index) begun.did in
    (none_of (did_at index first).runs (ap (λ (a : AtQueue). a.put) none), none_of (did_at index first).takes (ap (λ (a : AtQueue). a.taken) none))
