-- The shares of devices come back with their raw ttys.
use Rattle.boot_objects.proofs.Common.{◌≡◌, ℕ, suc, ◌+◌, Bool, true, false, List, [], ◌∷◌, length, Some, refl, sym, ap, subst, ◌∙◌, arith, ◌==◌, if◌then◌else◌, slice_get, Small, Large, QueueOps, ChainEnd, Ghosts, Shared, Parts, Shares, no_shares, both_shares, shares_add, RawTty, AtQueue, Stake, no_stake, idle_queue, at_one, stake, stakes, chain_stake, chain_stakes, by_sizes, Device, opening_shares, device_shares, all_shares, AreWhole, port_stakes, note_stake, note_stakes, raw_ports, raw_notes, TookRaws, HasWholes, add-zero, shares, shares_swap, end_of, by_index, AreDevicesOf, HaveAll, HaveBack, tty_shares}
use Rattle.turn_io.proofs.Telling.{none_more}
use Rattle.boot_objects.proofs.Summed.{at_map, chain_share_is, none_together}
use Rattle.boot_objects.proofs.Whole.{chosen_share}

-- the shares of raw ttys, the first of which is at these indexes
abbrev raw_shares : ℕ → ℕ → List RawTty → Shares
raw_shares raw chain ttys = record no_shares { queues = by_index (λ q. (port_stakes (raw_ports raw ttys) q).share) (λ q. 0); chains = λ k. (raw_notes chain ttys k).share }

-- WHAT WAS JOINED

note_share : {Q W : Type 0} {g : Ghosts Q W} (ends : List (ChainEnd Q W g)) (k : ℕ) → (chain_stakes ends k).share ≡ (note_stakes ends k).share
note_share ends k = chain_share_is ends k ∙ sym (at_map note_stake (λ (s : Stake AtQueue). s.share) (no_stake idle_queue) ends k)

took_shares : (raw chain : ℕ) (ttys : List RawTty) (old new : Parts) → TookRaws raw chain ttys old new → shares new ≡ both_shares (shares old) (raw_shares raw chain ttys)
took_shares raw chain ttys old new t = λ i. record {
  queues = by_sizes (shares new).queues (both_shares (shares old) (raw_shares raw chain ttys)).queues (λ q. ap (λ (f : ℕ → Stake QueueOps). (f q).share) t.small.stakes_are)
      (λ q. none_more _ _ (ap (λ (p : Parts). (stakes p.queues.large.items q).share) t.rest)) i;
  chains = λ k. (note_share new.chains.items k ∙ (ap (λ (f : ℕ → Stake AtQueue). (f k).share) t.chains ∙ ap (λ (s : ℕ). s + (raw_notes chain ttys k).share) (sym (note_share old.chains.items k)))) i;
  hand = none_more _ _ (ap (λ (p : Parts). (shares p).hand) t.rest) i;
  meters = none_more _ _ (ap (λ (p : Parts). (shares p).meters) t.rest) i;
}

-- WHAT THE DEVICES HAD

chosen_note : (b : Bool) (s : Stake AtQueue) → (if b then s else no_stake idle_queue).share ≡ (if b then s.share else 0)
chosen_note true s = refl
chosen_note false s = refl

-- the devices name queues from this index on, and chains from that
abbrev Named : ℕ → ℕ → List Device → Type 0
Named raw chain devices = (j : ℕ) (device : Device) → slice_get devices j ≡ Some device → (device.tty.index ≡ raw + j) × (device.chain ≡ chain + j)

named_on : (raw chain : ℕ) (device : Device) (devices : List Device) → Named raw chain (device ∷ devices) → Named (raw + 1) (chain + 1) devices
named_on raw chain device devices h j other at = let n = h (suc j) other at in let a = n.0 in let b = n.1 in (omega arith, omega arith)

queue_back : (q raw chain : ℕ) (devices : List Device) (ttys : List RawTty) → Named raw chain devices → HaveBack devices ttys → (all_shares device_shares devices).queues (Small q) ≡ (port_stakes (raw_ports raw ttys) q).share
queue_back q raw chain [] [] h e = refl
queue_back q raw chain [] (t ∷ ttys) h e = absurd (cc)
queue_back q raw chain (d ∷ devices) [] h e = absurd (cc)
queue_back q raw chain (d ∷ devices) (t ∷ ttys) h e =
    let one : tty_shares t ≡ tty_shares d.tty = cc in let rest : HaveBack devices ttys = cc in let i : d.tty.index ≡ raw = (h 0 d refl).0 ∙ add-zero raw in
    λ k. (ap (λ (z : ℕ). at_one 0 z (stake (end_of d.tty)).share q) i ∙ (ap (λ (z : ℕ × ℕ). at_one 0 raw z.0 q) (sym one) ∙ sym (chosen_share (q == raw) (stake (end_of t))))) k
    + queue_back q (raw + 1) (chain + 1) devices ttys (named_on raw chain d devices h) rest k

chain_back : (q raw chain : ℕ) (devices : List Device) (ttys : List RawTty) → Named raw chain devices → HaveBack devices ttys → (all_shares device_shares devices).chains q ≡ (raw_notes chain ttys q).share
chain_back q raw chain [] [] h e = refl
chain_back q raw chain [] (t ∷ ttys) h e = absurd (cc)
chain_back q raw chain (d ∷ devices) [] h e = absurd (cc)
chain_back q raw chain (d ∷ devices) (t ∷ ttys) h e =
    let one : tty_shares t ≡ tty_shares d.tty = cc in let rest : HaveBack devices ttys = cc in let i : d.chain ≡ chain = (h 0 d refl).1 ∙ add-zero chain in
    λ k. (ap (λ (z : ℕ). at_one 0 z (chain_stake d.tty.chain).share q) i ∙ (ap (λ (z : ℕ × ℕ). at_one 0 chain z.1 q) (sym one) ∙ sym (chosen_note (q == chain) (note_stake t.chain)))) k
    + chain_back q (raw + 1) (chain + 1) devices ttys (named_on raw chain d devices h) rest k

all_back : (raw chain : ℕ) (devices : List Device) (ttys : List RawTty) → Named raw chain devices → HaveBack devices ttys → raw_shares raw chain ttys ≡ all_shares device_shares devices
all_back raw chain devices ttys h e = λ i. record {
  queues = by_sizes (raw_shares raw chain ttys).queues (all_shares device_shares devices).queues (λ q. sym (queue_back q raw chain devices ttys h e))
      (λ q. sym (none_together device_shares (λ (s : Shares). s.queues (Large q)) refl (λ s t. refl) (λ x. refl) devices)) i;
  chains = λ q. sym (chain_back q raw chain devices ttys h e) i;
  hand = sym (none_together device_shares (λ (s : Shares). s.hand) refl (λ s t. refl) (λ x. refl) devices) i;
  meters = sym (none_together device_shares (λ (s : Shares). s.meters) refl (λ s t. refl) (λ x. refl) devices) i;
}

-- raw ttys with the shares of the devices' ones, place by place, have them in their order
pub back_at : (devices : List Device) (ttys : List RawTty) → length ttys ≡ length devices
    → ((k : ℕ) (device : Device) (tty : RawTty) → slice_get devices k ≡ Some device → slice_get ttys k ≡ Some tty → tty_shares tty ≡ tty_shares device.tty) → HaveBack devices ttys
back_at [] [] l h = refl
back_at [] (t ∷ ttys) l h = absurd (omega arith)
back_at (d ∷ devices) [] l h = absurd (omega arith)
back_at (d ∷ devices) (t ∷ ttys) l h = λ i. h 0 d t refl refl i ∷ back_at devices ttys (omega arith) (λ k. h (suc k)) i

-- ALL

pub come_home : (shared : Shared) (first last parts : Parts) (devices : List Device) (ttys : List RawTty) → HaveAll shared first devices → AreDevicesOf shared.plan shared.queues shared.chains.items devices
    → shares last ≡ shares first → HaveBack devices ttys → TookRaws (length shared.plan.queues) (length shared.plan.movers) ttys last parts → HasWholes shared parts
come_home shared first last parts devices ttys all its same back took =
    let raw : ℕ = length shared.plan.queues in let chain : ℕ = length shared.plan.movers in let given : Shares = opening_shares shared.chains.items in
    let brought : shares parts ≡ both_shares (shares first) (all_shares device_shares devices) = took_shares raw chain ttys last parts took
    ∙ (λ i. both_shares (same i) (all_back raw chain devices ttys (λ j d at. let n = its.each j d at in (n.raw_is, n.chain_is)) back i)) in
    subst (AreWhole shared) (sym (ap (λ (s : Shares). both_shares s given) brought ∙ (shares_add.regroups (shares first) (all_shares device_shares devices) given
    ∙ ap (both_shares (shares first)) (shares_swap (all_shares device_shares devices) given)))) all
