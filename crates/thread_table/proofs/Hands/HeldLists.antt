-- What a hand's view says of its call after an element was let go or handed, and how lists read after one entry changed.
use Rattle.thread_table.proofs.Common.{◌≡◌, ◌≢◌, ℕ, zero, suc, ◌<◌, Bool, true, false, ◌||◌, List, [], ◌∷◌, ◌∙◌, length, set, get_or, refl, sym, ap, subst, arith, Some, None, slice_get, get_or-set_other, get_or-set_same, IsCounted, serves, running, Counted, ⊎_elim, nothing_of, hold, Option, option_map, cases_eq, list_any, Elements, holds, appearances, IsLawfulElements, in_hands, ELEMENTS, View, Claimed, HandIs, IsClaimed}
use Rattle.thread_table.proofs.Lists.Copies.{length-copies, get_or-copies}
use Rattle.thread_table.proofs.Hands.Releases.{held_counts}

-- whether some entry passes a test, after one entry was replaced by another with the same result
pub any_set : {X : Type 0} (p : X → Bool) (xs : List X) (i : ℕ) (old new : X) → slice_get xs i ≡ Some old → p new ≡ p old → list_any p (set xs i new) ≡ list_any p xs
any_set p [] i old new at same = refl
any_set p (x ∷ xs) zero old new at same = let e : x ≡ old = cc in ap (λ b. b || list_any p xs) (same ∙ ap p (sym e))
any_set p (x ∷ xs) (suc i) old new at same = ap (λ b. p x || b) (any_set p xs i old new at same)

-- an entry that is read after one of them changed
pub read_set : {X : Type 0} (P : ℕ → X → Type 0) (xs : List X) (i : ℕ) (new d : X) → i < length xs → P i new
    → (j : ℕ) → (j ≢ i → P j (get_or xs j d)) → P j (get_or (set xs i new) j d)
read_set P xs i new d below here j others = ⊎_elim
    (λ same. subst (λ k. P k (get_or (set xs i new) k d)) (sym same) (subst (P i) (sym (get_or-set_same xs i new d below)) here))
    (λ apart. subst (P j) (sym (get_or-set_other xs i j new d apart)) (others apart))
    (cases_eq j i)

-- the view with this element as held or not, where nothing else of the call changed
pub held_set : (id : ℕ) (v : View) (e f : Elements) (element : ℕ) (is : Bool) → HandIs id v e → element < ELEMENTS → holds id element f ≡ is
    → ((x : ℕ) → x ≢ element → holds id x f ≡ holds id x e) → (x : ℕ) → holds id x f ≡ get_or (set v.own.held element is) x false
held_set id v e f element is hand below own others x =
    read_set (λ k b. holds id k f ≡ b) v.own.held element is false (omega (arith, hand.held_long)) own x (λ apart. others x apart ∙ hand.held x)

pub no_claim : (id : ℕ) (v : View) (f : Elements) → v.own.claimed ≡ None → (c : Claimed) → v.own.claimed ≡ Some c → IsClaimed id c f
no_claim id v f none c is = absurd (cc)

-- an element that its call holds is in no other hands
pub held_once : (id element : ℕ) (e : Elements) → IsLawfulElements e → element < length e.threads → holds id element e ≡ true → in_hands element e.held ≡ 1
held_once id element e lawful below any =
    let once : appearances element e ≡ 1 = lawful.once element below in
    omega (arith, once, held_counts id element e.held any)

abbrev none_on : Option ℕ
none_on = None

-- a hand that has nothing but processors, on which nothing is
pub hand_idle : (call first : ℕ) (mask : List Bool) (fresh : Bool) (v : View) (e : Elements) → length mask ≡ 8 → ((x : ℕ) → holds call x e ≡ false) → ((p : ℕ) → get_or mask p false ≡ true → slice_get e.processors p ≡ Some None)
    → HandIs call (record v { own = record (nothing_of first) { serves = mask; fresh = fresh } }) e
hand_idle call first mask fresh v e long none free = record {
  held_long = length-copies 64 false;
  serves_long = long;
  on_long = length-copies 8 none_on;
  held = λ element. none element ∙ sym (get_or-copies 64 false element);
  on = λ p s. free p s ∙ sym (ap (λ (x : Option ℕ). Some (option_map (hold call) x)) (get_or-copies 8 none_on p));
  off = λ p s. get_or-copies 8 none_on p;
  claimed = λ c is. absurd (cc);
  counted = λ c is. absurd (cc);
}

-- a hand has what its call has, where its call has what it had
pub hand_kept : (call : ℕ) (u : View) (e f : Elements) → HandIs call u e → ((x : ℕ) → holds call x f ≡ holds call x e) → ((p : ℕ) → serves u p ≡ true → slice_get f.processors p ≡ Some (option_map (hold call) (running u p)))
    → ((c : Claimed) → IsClaimed call c e → IsClaimed call c f) → ((c : Counted) → IsCounted call c e → IsCounted call c f) → HandIs call u f
hand_kept call u e f h held on claimed counted = record {
  held_long = h.held_long;
  serves_long = h.serves_long;
  on_long = h.on_long;
  held = λ x. held x ∙ h.held x;
  on = on;
  off = h.off;
  claimed = λ c is. claimed c (h.claimed c is);
  counted = λ c is. counted c (h.counted c is);
}
