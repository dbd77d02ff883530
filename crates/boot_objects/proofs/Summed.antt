-- The shares of many, summed.
use Rattle.boot_objects.proofs.Common.{◌≡◌, ℕ, zero, suc, ◌+◌, ◌<◌, List, [], ◌∷◌, ◌++◌, map, length, get_or, refl, sym, ap, ◌∙◌, arith, QueueIndex, Small, Large, QueueEnd, QueueOps, nothing_did, Stake, AtChain, no_stake, idle_chain, stake, stakes, chain_stake, chain_stakes, share_at, chain_share_at, ChainEnd, ProcChain, Ghosts, IsOnlySeat, Shared, Parts, Shares, no_shares, both_shares, shares_add, AnyQuaject, Queues, IsWhole, IsOnlyHand, Device, quaject_shares, device_shares, all_shares, quajects_of, opening_shares, end_shares, AreAllEnds, AreWhole, shares}
use Rattle.turn_io.specs.QueueEnds.{IsThere}

module _ {A : Type 0} (of : A → Shares) where
  pub shares_append : (xs ys : List A) → all_shares of (xs ++ ys) ≡ both_shares (all_shares of xs) (all_shares of ys)
  shares_append [] ys = sym (shares_add.none_first (all_shares of ys))
  shares_append (x ∷ xs) ys = (λ i. both_shares (of x) (shares_append xs ys i)) ∙ sym (shares_add.regroups (of x) (all_shares of xs) (all_shares of ys))

  pub shares_push : (xs : List A) (x : A) → all_shares of (xs ++ x ∷ []) ≡ both_shares (all_shares of xs) (of x)
  shares_push xs x = shares_append xs (x ∷ []) ∙ ap (both_shares (all_shares of xs)) (shares_add.none_last (of x))

  -- if no member of a list has a share of it, they have none together
  pub none_together : (pick : Shares → ℕ) → pick no_shares ≡ 0 → ((s t : Shares) → pick (both_shares s t) ≡ pick s + pick t) → ((x : A) → pick (of x) ≡ 0) → (xs : List A) → pick (all_shares of xs) ≡ 0
  none_together pick none adds each [] = none
  none_together pick none adds each (x ∷ xs) = let e = adds (of x) (all_shares of xs) in let f = each x in let h = none_together pick none adds each xs in omega (arith, e, f, h)

pub at_map : {A B C : Type 0} (f : A → B) (g : B → C) (d : B) (xs : List A) (q : ℕ) → g (get_or (map f xs) q d) ≡ get_or (map (λ x. g (f x)) xs) q (g d)
at_map f g d [] q = refl
at_map f g d (x ∷ xs) zero = refl
at_map f g d (x ∷ xs) (suc q) = at_map f g d xs q

pub share_is : {n : ℕ} (ends : List (QueueEnd n)) (q : ℕ) → (stakes ends q).share ≡ share_at ends q
share_is ends q = at_map stake (λ (s : Stake QueueOps). s.share) (no_stake nothing_did) ends q

pub chain_share_is : {Q W : Type 0} {g : Ghosts Q W} (ends : List (ChainEnd Q W g)) (k : ℕ) → (chain_stakes ends k).share ≡ chain_share_at ends k
chain_share_is ends k = at_map chain_stake (λ (s : Stake AtChain). s.share) (no_stake idle_chain) ends k

-- the whole of all, by the kinds of queues
pub all_ends : (queues : Queues) (chains : List (ProcChain AnyQuaject Queues)) (all : Shares) → ((q : ℕ) → q < length queues.small.items → IsWhole (all.queues (Small q))) → ((q : ℕ) → q < length queues.large.items → IsWhole (all.queues (Large q)))
    → ((k : ℕ) → k < length chains → IsWhole (all.chains k)) → AreAllEnds queues chains all
all_ends queues chains all small large ends = record { each_queue = each; each_chain = ends }
  where
    each : (q : QueueIndex) → IsThere queues q → IsWhole (all.queues q)
    each (Small q) l = small q l
    each (Large q) l = large q l

-- if the owner's ends and the rest are all ends, and the owner has the only hand and the only seat, both together have
-- all
pub owner_whole : (shared : Shared) (parts : Parts) (rest : Shares) → rest.hand ≡ 0 → rest.meters ≡ 0 → AreAllEnds shared.queues shared.chains.items (both_shares (end_shares parts.queues.small.items parts.queues.large.items parts.chains.items) rest)
    → IsOnlyHand parts.hand → IsOnlySeat parts.meters → AreWhole shared (both_shares (shares parts) rest)
owner_whole shared parts rest none none' ends hand seat = record {
  ends = record { each_queue = ends.each_queue; each_chain = ends.each_chain };
  hand = omega (arith, none, hand);
  meters = omega (arith, none', seat);
}

-- quajects and devices have no share of the threads and the meters
pub no_hand : (chains : List (ProcChain AnyQuaject Queues)) (devices : List Device) → (both_shares (opening_shares chains) (all_shares device_shares devices)).hand ≡ 0
no_hand chains devices = λ i. none_together quaject_shares (λ (s : Shares). s.hand) refl (λ s t. refl) (λ x. refl) (quajects_of chains) i + none_together device_shares (λ (s : Shares). s.hand) refl (λ s t. refl) (λ x. refl) devices i

pub no_meters : (chains : List (ProcChain AnyQuaject Queues)) (devices : List Device) → (both_shares (opening_shares chains) (all_shares device_shares devices)).meters ≡ 0
no_meters chains devices = λ i. none_together quaject_shares (λ (s : Shares). s.meters) refl (λ s t. refl) (λ x. refl) (quajects_of chains) i + none_together device_shares (λ (s : Shares). s.meters) refl (λ s t. refl) (λ x. refl) devices i
