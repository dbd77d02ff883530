-- A station that gives a part of each end to another processor's.
use Rattle.boot_threads.proofs.Common.{◌≡◌, ◌≢◌, inl, inr, ℕ, ◌+◌, ◌*◌, ◌%◌, ◌^◌, ◌<◌, ◌≤◌, not, true, false, None, List, [], ◌∷◌, ◌++◌, map, length, get_or, refl, sym, ap, subst, ◌∙◌, arith, eq-eqb, true≢false, eqb_tells, length-map, AllByRecursion, Small, Large, Stake, no_stake, stake, chain_stake, idle_chain, nothing_did, IsFree, Shared, Parts, account, shares, AreSplit, IsPrepared, HasDoneAll, BootPlan, get_or-copies, is_in, Work, free_taken, IsAmple, CanSplit, IsPosted, ArePosted, ◌⊎◌, ◌/◌, ◌&&◌, eqb, min-le_right, get_or-map, All, each_share, AreDivisible, preparing, AreSameParts, View, view_of, running}
use Rattle.std.proofs.Math.Pow.{pow-lt}
use Rattle.std.proofs.lemmas.Nat.Bits.{bit_at-pow_same, bit_at-pow_other}
use Rattle.turn_io.specs.EndLists.{end_table, chain_end_table}
use Rattle.table_theory.specs.Sharing.{kept}
use Rattle.boot_threads.proofs.Handling.{free_later}

-- THE PROCESSOR OF A MASK

-- the mask of one processor
pub one_mask : (p : ℕ) → p < 8 → 1 * 2 ^ p % 256 ≡ 2 ^ p
one_mask p low = let m : 2 ^ p < 256 = pow-lt {i = p} {j = 8} low in omega arith

mask_bit : (p k : ℕ) → is_in (2 ^ p) k ≡ eqb k p
mask_bit p k = by (eqb_tells k p)
  where
    by : ((eqb k p ≡ true) × (k ≡ p)) ⊎ ((eqb k p ≡ false) × (k ≢ p)) → is_in (2 ^ p) k ≡ eqb k p
    by (inl same) = ap (λ z. is_in (2 ^ p) z) same.1 ∙ ap (λ z. eqb z 1) (bit_at-pow_same p) ∙ sym same.0
    by (inr other) = ap (λ z. eqb z 1) (bit_at-pow_other p k other.1) ∙ sym other.0

past_false : (p k : ℕ) → p < k → eqb k p ≡ false
past_false p k past = by (eqb_tells k p)
  where
    by : ((eqb k p ≡ true) × (k ≡ p)) ⊎ ((eqb k p ≡ false) × (k ≢ p)) → eqb k p ≡ false
    by (inl same) = absurd (let e = same.1 in omega arith)
    by (inr other) = other.0

-- only the processor of the mask is asked for
pub only_free : (p : ℕ) (v : View) → ((k : ℕ) → p ≤ k → k < 8 → IsFree k v) → (k : ℕ) → k < 8 → is_in (2 ^ p) k ≡ true → IsFree k v
only_free p v free k below at = by (eqb_tells k p)
  where
    by : ((eqb k p ≡ true) × (k ≡ p)) ⊎ ((eqb k p ≡ false) × (k ≢ p)) → IsFree k v
    by (inl same) = let e = same.1 in free k (omega arith) below
    by (inr other) = absurd (true≢false (sym at ∙ mask_bit p k ∙ other.0))

module _ (p : ℕ) (old new born : Parts) (s : AreSplit (2 ^ p) old new born) where
  -- the new station's hand serves the processor, and no element is on it
  pub born_free : p < 8 → IsFree p (view_of born.hand)
  born_free low = (s.born_hand.serves p low ∙ mask_bit p p ∙ eq-eqb p p refl, ap (λ (v : View). running v p) s.born_hand.same ∙ get_or-copies 8 None p)

  -- the other hand serves the others still
  pub still_free : ((k : ℕ) → p ≤ k → k < 8 → IsFree k (view_of old.hand)) → (k : ℕ) → p < k → k < 8 → IsFree k (view_of new.hand)
  still_free free k past below =
      let f = free k (omega arith) below in (
        s.hand.serves k below ∙ ap (λ b. b && not (is_in (2 ^ p) k)) f.0 ∙ ap (λ b. true && not b) (mask_bit p k ∙ past_false p k past),
        ap (λ (v : View). running v k) s.hand.acts.has ∙ f.1,
      )

  -- a station that was prepared still is
  pub still_prepared : account new ≡ account old → (plan : BootPlan) → IsPrepared plan old → IsPrepared plan new
  still_prepared did plan prepared =
      let later : free_taken (view_of old.hand) ≤ free_taken (view_of new.hand) = free_later (view_of old.hand) (view_of new.hand) new.hand.valid s.hand.acts.later in
      let before : 64 ≤ free_taken (view_of old.hand) = prepared.taken in record {
        taken = omega arith;
        did = subst (λ z. z ≡ preparing plan z) (sym did) prepared.did;
        retired = subst (λ z. AllByRecursion (HasDoneAll plan) z.hand.retired) (sym did) prepared.retired;
        took = ap (λ z. length z.hand.taken) did ∙ prepared.took;
        signals = s.signals ∙ prepared.signals;
      }

-- SHARES

all_at : {E D : Type 0} (of : E → Stake D) (none : D) (xs : List E) → ((q : ℕ) → q < length xs → IsAmple 1 (get_or (map of xs) q (no_stake none)).share) → All (λ x. 2 ≤ (of x).share) xs
all_at {E} {D} of none xs h k d below = let e = ap (λ (s : Stake D). s.share) (get_or-map of xs k d (no_stake none) below) in let a = h k below in omega arith

pub divisible : (parts : Parts) → CanSplit 1 parts → AreDivisible parts
divisible parts c = record {
  hand = let h = c.hand in omega arith;
  queues = record {
    small = all_at stake nothing_did parts.queues.small.items c.small;
    large = all_at stake nothing_did parts.queues.large.items c.large;
  };
  chains = all_at chain_stake idle_chain parts.chains.items c.chains;
  meters = let h = c.meters in omega arith;
}

less_ample : (n m s : ℕ) → n ≤ m → IsAmple m s → IsAmple n s
less_ample n m s low h = omega arith

-- what can be split more often can be split so often
pub fewer : (n m : ℕ) (parts : Parts) → n ≤ m → CanSplit m parts → CanSplit n parts
fewer n m parts low c = record {
  hand = less_ample n m _ low c.hand;
  small = λ q l. less_ample n m _ low (c.small q l);
  large = λ q l. less_ample n m _ low (c.large q l);
  chains = λ q l. less_ample n m _ low (c.chains q l);
  meters = less_ample n m _ low c.meters;
}

kept_ample : (n s t : ℕ) → t ≡ kept s → IsAmple (n + 1) s → IsAmple n t
kept_ample n s t is h = let m = min-le_right (s / 2) 2097152 in omega arith

as_many : {A B : Type 0} (f : A → B) (xs ys : List A) → map f ys ≡ map f xs → length ys ≡ length xs
as_many f xs ys e = sym (length-map ys f) ∙ ap (λ z. length z) e ∙ length-map xs f

pub can_split : (n : ℕ) (old new : Parts) → shares new ≡ each_share kept (shares old) → AreSameParts old new → CanSplit (n + 1) old → CanSplit n new
can_split n old new s same c = record {
  hand = kept_ample n _ _ (λ i. (s i).hand) c.hand;
  small = λ q low. kept_ample n _ _ (λ i. (s i).queues (Small q)) (c.small q (subst (λ k. q < k) (as_many end_table old.queues.small.items new.queues.small.items same.queues.small.tables) low));
  large = λ q low. kept_ample n _ _ (λ i. (s i).queues (Large q)) (c.large q (subst (λ k. q < k) (as_many end_table old.queues.large.items new.queues.large.items same.queues.large.tables) low));
  chains = λ q low. kept_ample n _ _ (λ i. (s i).chains q) (c.chains q (subst (λ k. q < k) (as_many chain_end_table old.chains.items new.chains.items same.chains.tables) low));
  meters = kept_ample n _ _ (λ i. (s i).meters) c.meters;
}

-- GATES

-- one gate more
pub posted_more : {G : Type 0} (shared : Shared) (p q turns : ℕ) (gates : List G) (gate : G) (old mid new : Parts) (ws : List (Work G)) (w : Work G)
    → ArePosted shared p turns gates old mid ws → q ≡ p + length gates → IsPosted shared q turns gate mid new w → ArePosted shared p turns (gates ++ gate ∷ []) old new (ws ++ w ∷ [])
posted_more shared p q turns [] gate old mid new [] w all is one =
    (new, subst (λ (z : Parts). IsPosted shared p turns gate z new w) all (subst (λ (z : ℕ). IsPosted shared z turns gate mid new w) (let e : q ≡ p = omega (arith, is) in e) one), refl)
posted_more shared p q turns [] gate old mid new (x ∷ ws) w all is one = absurd all
posted_more shared p q turns (y ∷ gates) gate old mid new [] w all is one = absurd all
posted_more shared p q turns (y ∷ gates) gate old mid new (x ∷ ws) w all is one =
    (all.0, all.1, posted_more shared (p + 1) q turns gates gate all.0 mid new ws w all.2 (omega (arith, is)) one)
