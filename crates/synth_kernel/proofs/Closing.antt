-- The work of the ends that closed all, except the work of the devices.
use Rattle.synth_kernel.proofs.Common.{◌≡◌, ℕ, zero, suc, ◌+◌, List, [], ◌∷◌, map, length, Option, Some, refl, ap, ◌∙◌, arith, slice_get, BootPlan, TookRaws, Parts, RawTty, ◌<◌, ◌==◌, Bool, false, ne_eqb, Line, raw_ports, account, shown_in, end_of, DidAll}
use Rattle.std.specs.Prelude.{if◌then◌else◌, slice_index_or}
use Rattle.boot_objects.proofs.Common.{dids_add}
use Rattle.boot_objects.specs.Gains.{Gained, port_stakes}
use Rattle.claim_queue.specs.declared.ends.QueueEnd.{QueueEnd}
use Rattle.claim_queue.specs.declared.rule.QueueOps.{QueueOps}
use Rattle.claim_queue.specs.Own.{nothing_did, did_both}
use Rattle.meters.specs.Handles as seats
use Rattle.thread_table.specs.Handles.{view_of}
use Rattle.turn_dispatch.specs.Tallies.{tally}
use Rattle.turn_io.specs.Accounts.{Stake, no_stake, both_stakes, stake, stakes, at_each, lines_of, queue_account, chain_stake, idle_chain}

-- if two lists agree at a place, the mapped lists agree there
same_at : {A B : Type 0} (f : A → B) (d : B) (xs ys : List A) (k : ℕ) → slice_get xs k ≡ slice_get ys k → slice_index_or (map f xs) k d ≡ slice_index_or (map f ys) k d
same_at f d [] [] k e = refl
same_at f d [] (y ∷ ys) zero e = absurd (cc)
same_at f d [] (y ∷ ys) (suc k) e = same_at f d [] ys k e
same_at f d (x ∷ xs) [] zero e = absurd (cc)
same_at f d (x ∷ xs) [] (suc k) e = same_at f d xs [] k e
same_at f d (x ∷ xs) (y ∷ ys) zero e = let same : x ≡ y = cc in ap f same
same_at f d (x ∷ xs) (y ∷ ys) (suc k) e = same_at f d xs ys k e

-- the devices have no end of a queue before the first raw queue
none_before : (raw : ℕ) (ttys : List RawTty) (q : ℕ) → q < raw → (port_stakes (raw_ports raw ttys) q).did ≡ nothing_did
none_before raw [] q low = refl
none_before raw (tty ∷ ttys) q low =
    let other : (q == raw) ≡ false = ne_eqb q raw (λ (e : q ≡ raw). absurd (omega arith)) in
    (λ i. did_both (if other i then stake (end_of tty) else no_stake nothing_did).did (none_before (raw + 1) ttys q (omega arith) i))

-- the end of such a queue did what it had done
as_before : (raw : ℕ) (ttys : List RawTty) (old new : List (QueueEnd 64)) (q : ℕ) → Gained (raw_ports raw ttys) old new → q < raw → queue_account new q ≡ queue_account old q
as_before raw ttys old new q gained low =
    ap (λ (f : ℕ → Stake QueueOps). lines_of (f q).did) gained.stakes_are
    ∙ ap (λ (d : QueueOps). lines_of (did_both (stakes old q).did d)) (none_before raw ttys q low)
    ∙ ap lines_of (dids_add.none_last (stakes old q).did)

-- The devices' ends added work at no other place: everywhere else it is the last station's work
pub did_all : (plan : BootPlan) (ttys : List RawTty) (last parts : Parts) → TookRaws (length plan.queues) (length plan.movers) ttys last parts → (heard : List Line) → DidAll plan (record (account last) { heard = heard }) parts
did_all plan ttys last parts took heard = record {
  hand = ap (λ (z : Parts). tally (view_of z.hand).own.made) took.rest;
  meters = ap (λ (z : Parts). (seats.view_of z.meters).own) took.rest;
  shown = ap (λ (z : Parts). shown_in z.signals) took.rest;
  small = λ q low. as_before (length plan.queues) ttys last.queues.small.items parts.queues.small.items q took.small low;
  large = λ q. ap (λ (z : Parts). queue_account z.queues.large.items q) took.rest;
  chains = λ k low. ap (λ z. z.did) (same_at chain_stake (no_stake idle_chain) parts.chains.items last.chains.items k (took.before k low));
}
