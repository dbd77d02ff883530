-- The first station of new objects, once it is prepared: its shares, and the processors that it serves.
use Rattle.boot_threads.proofs.Common.{◌≡◌, ℕ, zero, suc, ◌+◌, ◌*◌, ◌<◌, ◌≤◌, Bool, false, List, [], ◌∷◌, ◌∙◌, map, length, get_or, refl, ap, arith, Option, None, length-map, BootPlan, Small, Large, nothing_did, Stake, no_stake, stake, chain_stake, idle_chain, IsFree, IsFirstHand, Parts, shares, ThreadTable, HasPrepared, IsAmple, CanSplit, NoneOn, IsOnlySeat, IsFirstSeat, View, view_of, IsOnlyHand}
use Rattle.meters.specs.declared.ends.Meters.{Meters}
use Rattle.boot_objects.specs.Stocks as stocks
use Rattle.boot_objects.specs.Stocks.{CanGive}

pub prepared_shares : (plan : BootPlan) (old new : Parts) → HasPrepared plan old new → shares new ≡ shares old
prepared_shares plan old new p = ap shares p.rest ∙ (λ i. record (shares old) { hand = p.hand.moved.keeps.share i; meters = (p.alarms i).share })

eight : (s t : ℕ) → t ≡ s → 1000 * 2097152 + 2 ≤ s → IsAmple 8 t
eight s t e h = omega arith

eight_of_all : (s t : ℕ) → t ≡ s → s ≡ 18446744073709551615 → IsAmple 8 t
eight_of_all s t e h = omega arith

-- the share of the end at a place
share_is : {E D : Type 0} (of : E → Stake D) (none : D) (xs : List E) (q : ℕ) → (get_or (map of xs) q (no_stake none)).share ≡ get_or (map (λ x. (of x).share) xs) q 0
share_is of none [] q = refl
share_is of none (x ∷ xs) zero = refl
share_is of none (x ∷ xs) (suc q) = share_is of none xs q

ample_at : {E D : Type 0} (of : E → Stake D) (none : D) (xs : List E) → CanGive 1000 (map (λ x. (of x).share) xs) → (q t many : ℕ) → t ≡ (get_or (map of xs) q (no_stake none)).share → many ≡ length xs → q < many → IsAmple 8 t
ample_at of none xs can q t many is long low = eight _ t (is ∙ share_is of none xs q) (can q (let l = length-map xs (λ x. (of x).share) in omega arith))

pub can_split_eight : (plan : BootPlan) (table : ThreadTable) (meters : Meters) (old new : Parts) → IsFirstHand table old.hand → IsFirstSeat meters old.meters
    → CanGive 1000 (stocks.shares old.queues.small.items) → CanGive 1000 (stocks.shares old.queues.large.items) → CanGive 1000 (stocks.chain_shares old.chains.items) → HasPrepared plan old new → CanSplit 8 new
can_split_eight plan table meters old new hand seat small large chains p =
    let s = prepared_shares plan old new p in record {
      hand = eight_of_all _ _ (λ i. (s i).hand) hand.only;
      small = λ q low. ample_at stake nothing_did old.queues.small.items small q _ _ (λ i. (s i).queues (Small q)) (λ i. length (p.rest i).queues.small.items) low;
      large = λ q low. ample_at stake nothing_did old.queues.large.items large q _ _ (λ i. (s i).queues (Large q)) (λ i. length (p.rest i).queues.large.items) low;
      chains = λ q low. ample_at chain_stake idle_chain old.chains.items chains q _ _ (λ i. (s i).chains q) (λ i. length (p.rest i).chains.items) low;
      meters = eight_of_all _ _ (λ i. (s i).meters) seat.only;
    }

pub all_free : (plan : BootPlan) (table : ThreadTable) (old new : Parts) → IsFirstHand table old.hand → HasPrepared plan old new → NoneOn new × ((k : ℕ) → k < 8 → IsFree k (view_of new.hand))
all_free plan table old new hand p =
    let k = p.hand.moved.keeps in (
      k.on ∙ ap (λ (v : View). v.own.on) hand.knows,
      λ q low. let f = hand.free q low in (
        ap (λ (z : List Bool). get_or z q false) k.serves ∙ f.0,
        ap (λ (z : List (Option ℕ)). get_or z q None) k.on ∙ f.1,
      ),
    )

pub all_back : (plan : BootPlan) (table : ThreadTable) (meters : Meters) (first old last : Parts) → IsFirstHand table first.hand → IsFirstSeat meters first.meters → HasPrepared plan first old → shares last ≡ shares old
    → IsOnlyHand last.hand × IsOnlySeat last.meters × (shares last ≡ shares first)
all_back plan table meters first old last hand seat p back =
    let s = back ∙ prepared_shares plan first old p in
    ((λ i. (s i).hand) ∙ hand.only, (λ i. (s i).meters) ∙ seat.only, s)
