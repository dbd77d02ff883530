-- What the ends list after a step.
use Rattle.meters.proofs.Common.{◌≡◌, ◌≢◌, ℕ, ◌+◌, ◌-◌, ◌%◌, ◌<◌, ◌≤◌, ◌⊎◌, ⊎_elim, inl, inr, cond, List, [], ◌∷◌, ◌++◌, set, get_or, get_or-set_same, get_or-set_other, length, length-append, Bool, refl, sym, ap, ◌∙◌, subst, arith, eqb, ne_eqb, dite, ℕ_discrete, some, get_elem?, set_else, Alarm, is_alarm, newborn_with, rest_without, both, emptied, MeterOps, Reading, with_tick, SeatView, nothing_did, did_both, amount_on, times, times_to, ViewsShow}
use Rattle.std.proofs.Common.{eq-eqb}
use Rattle.std.proofs.lemmas.List.Sums.{sum_by_push, sum_by-append}
use Rattle.table_theory.specs.Sharing.{total}
use Rattle.table_theory.proofs.Totals.{total_set, total_kept, total_push, one_of, sole_total}
use Rattle.meters.specs.Views.{AdvancesShow, IsPart}

abbrev wide : ℕ
wide = 18446744073709551616

-- what all ends did, by a number that each did so often
abbrev pub all_did : (MeterOps → ℕ) → List SeatView → ℕ
all_did f views = total (λ v. f v.own) views

-- two ends did together what both did, and an end that did nothing did it never
abbrev Adds : (MeterOps → ℕ) → Type 0
Adds f = (f nothing_did ≡ 0) × ((d e : MeterOps) → f (did_both d e) ≡ f d + f e)

times_add : (a : Alarm) (xs ys : List Alarm) → times a (xs ++ ys) ≡ times a xs + times a ys
times_add a xs ys = sum_by-append (λ x. cond (is_alarm a x) 1 0) xs ys

-- the advances, where each end lists as many as before, and to the same ticks
advances_same : (first clock : ℕ) (views new : List SeatView) → AdvancesShow first clock views → ((f : List ℕ → ℕ) → (f [] ≡ 0) × ((xs ys : List ℕ) → f (xs ++ ys) ≡ f xs + f ys) → total (λ v. f v.own.advances) new ≡ total (λ v. f v.own.advances) views) → AdvancesShow first clock new
advances_same first clock views new h same = let to : (t : ℕ) → total (λ v. times_to t v.own.advances) new ≡ total (λ v. times_to t v.own.advances) views = λ t. same (times_to t) (refl, sum_by-append (λ x. cond (eqb x t) 1 0)) in record {
  number = h.number ∙ ap (λ (z : ℕ). first + z) (sym (same length (refl, length-append)));
  once = λ t past upto. to t ∙ h.once t past upto;
  never = λ t out. to t ∙ h.never t out;
}

-- the views show the meters, where the ends did as much together
pub listed_same : (first : ℕ) (m : Reading) (views new : List SeatView) → ViewsShow first m views → ((f : MeterOps → ℕ) → Adds f → all_did f new ≡ all_did f views) → ViewsShow first m new
listed_same first m views new h same = record {
  gauges = λ g b. h.gauges g b ∙ ap (λ (z : ℕ). z % wide) (sym (same (λ d. amount_on g d.ticks) (refl, λ d e. sum_by-append (λ x. cond (eqb x.gauge g) x.amount 0) d.ticks e.ticks)));
  advances = advances_same first m.clock views new h.advances (λ f adds. same (λ d. f d.advances) (adds.0, λ d e. adds.1 d.advances e.advances));
  set = λ a. h.set a ∙ sym (same (λ d. times a d.set) (refl, λ d e. times_add a d.set e.set));
  fired = λ a. h.fired a ∙ sym (same (λ d. times a d.fired) (refl, λ d e. times_add a d.fired e.fired));
  cancelled = λ a. h.cancelled a ∙ sym (same (λ d. times a d.cancelled) (refl, λ d e. times_add a d.cancelled e.cancelled));
}

-- a step that is no event
pub listed_look : (first : ℕ) (m : Reading) (views : List SeatView) (id : ℕ) (v w : SeatView) → ViewsShow first m views → get_elem? views id ≡ some v → w.own ≡ v.own → ViewsShow first m (set views id w)
listed_look first m views id v w h at own = listed_same first m views (set views id w) h (λ f adds. total_kept (λ (u : SeatView). f u.own) views id v w at (ap f own))

-- an end gives a part of its share to a new one, which did nothing
pub listed_split : (first : ℕ) (m : Reading) (views : List SeatView) (id : ℕ) (v : SeatView) (parts : ℕ) → ViewsShow first m views → get_elem? views id ≡ some v → ViewsShow first m (set views id (rest_without parts v) ++ newborn_with parts nothing_did v ∷ [])
listed_split first m views id v parts h at = listed_same first m views (set views id (rest_without parts v) ++ newborn_with parts nothing_did v ∷ []) h
    (λ f adds. let p = total_push (λ (u : SeatView). f u.own) (set views id (rest_without parts v)) (newborn_with parts nothing_did v) in let k = total_kept (λ (u : SeatView). f u.own) views id v (rest_without parts v) at refl in let none = adds.0 in omega arith)

-- an end takes in another
pub listed_join : (first : ℕ) (m : Reading) (views : List SeatView) (id other : ℕ) (v u : SeatView) → ViewsShow first m views → get_elem? views id ≡ some v → get_elem? views other ≡ some u → other ≢ id → ViewsShow first m (set (set views id (both did_both v u)) other (emptied nothing_did v))
listed_join first m views id other v u h at at' ne = let b : SeatView = both did_both v u in let x : SeatView = emptied nothing_did v in listed_same first m views (set (set views id b) other x) h
    (λ f adds. let t = total_set (λ (z : SeatView). f z.own) views id v b at in let t' = total_set (λ (z : SeatView). f z.own) (set views id b) other u x (set_else views id other b ne ∙ at') in let none = adds.0 in let sum = adds.1 v.own u.own in omega arith)

-- one end alone has all, where all others did nothing
pub listed_sole : (first : ℕ) (m : Reading) (views : List SeatView) (id : ℕ) (v w : SeatView) → ViewsShow first m views → get_elem? views id ≡ some w → ((i : ℕ) (u : SeatView) → get_elem? views i ≡ some u → i ≢ id → u.own ≡ nothing_did) → w.own ≡ v.own → ViewsShow first m (v ∷ [])
listed_sole first m views id v w h at idle same = listed_same first m views (v ∷ []) h
    (λ f adds. let s = sole_total (λ (u : SeatView). f u.own) views id w at (λ i u has ne. ap f (idle i u has ne) ∙ adds.0) in let e = ap f same in omega arith)

-- What an event changes in the lists of an end, and in those of the meters, whatever all others did
pub record Lists (m n : Reading) (d e : MeterOps) : Type 0 where
  pub gauges : (g t : ℕ) → g < 8 → get_or m.gauges g 0 ≡ (t + amount_on g d.ticks) % wide → get_or n.gauges g 0 ≡ (t + amount_on g e.ticks) % wide
  pub set : (a : Alarm) (t : ℕ) → times a m.set ≡ t + times a d.set → times a n.set ≡ t + times a e.set
  pub fired : (a : Alarm) (t : ℕ) → times a m.fired ≡ t + times a d.fired → times a n.fired ≡ t + times a e.fired
  pub cancelled : (a : Alarm) (t : ℕ) → times a m.cancelled ≡ t + times a d.cancelled → times a n.cancelled ≡ t + times a e.cancelled

-- one alarm more in both lists
pub one_more : (a alarm : Alarm) (xs ys : List Alarm) (t : ℕ) → times a xs ≡ t + times a ys → times a (xs ++ alarm ∷ []) ≡ t + times a (ys ++ alarm ∷ [])
one_more a alarm xs ys t h = let p = times_add a xs (alarm ∷ []) in let q = times_add a ys (alarm ∷ []) in omega arith

pub tick_lists : (m : Reading) (g n : ℕ) (d : MeterOps) → g < length m.gauges → Lists m (with_tick m g n) d (record d { ticks = d.ticks ++ record { gauge = g; amount = n } ∷ [] })
tick_lists m g n d within = let z : ℕ = (get_or m.gauges g 0 + n) % wide in record {
  gauges = λ j t b h. let p : amount_on j (d.ticks ++ record { gauge = g; amount = n } ∷ []) ≡ amount_on j d.ticks + cond (eqb g j) n 0 = sum_by_push (λ x. cond (eqb x.gauge j) x.amount 0) d.ticks (record { gauge = g; amount = n }) in dite (ℕ_discrete j g)
      (λ is. let yes : cond (eqb g j) n 0 ≡ n = ap (λ (x : Bool). cond x n 0) (eq-eqb g j (sym is)) in let was : get_or m.gauges g 0 ≡ (t + amount_on j d.ticks) % wide = ap (λ (x : ℕ). get_or m.gauges x 0) (sym is) ∙ h in
      ap (λ (x : ℕ). get_or (set m.gauges g z) x 0) is ∙ (get_or-set_same m.gauges g z 0 within ∙ (let e : z ≡ (t + amount_on j (d.ticks ++ record { gauge = g; amount = n } ∷ [])) % wide = omega arith in e)))
      (λ ne. let no : cond (eqb g j) n 0 ≡ 0 = ap (λ (x : Bool). cond x n 0) (ne_eqb g j (λ q. ne (sym q))) in
      get_or-set_other m.gauges g j z 0 ne ∙ (h ∙ ap (λ (x : ℕ). (t + x) % wide) (let e : amount_on j d.ticks ≡ amount_on j (d.ticks ++ record { gauge = g; amount = n } ∷ []) = omega arith in e)));
  set = λ a t h. h;
  fired = λ a t h. h;
  cancelled = λ a t h. h;
}

-- a total, by one end's part
part_is : (f : SeatView → ℕ) (views : List SeatView) (id : ℕ) (v w : SeatView) → get_elem? views id ≡ some v → (t : ℕ) × (total f views ≡ t + f v) × (total f (set views id w) ≡ t + f w)
part_is f views id v w at = let o = one_of f views id v at in let s = total_set f views id v w at in (total f views - f v, omega arith, omega arith)

listed : (first : ℕ) (m n : Reading) (views : List SeatView) (id : ℕ) (v w : SeatView) → ViewsShow first m views → get_elem? views id ≡ some v → Lists m n v.own w.own → AdvancesShow first n.clock (set views id w) → ViewsShow first n (set views id w)
listed first m n views id v w h at d advances = let part : (f : MeterOps → ℕ) → (t : ℕ) × (all_did f views ≡ t + f v.own) × (all_did f (set views id w) ≡ t + f w.own) = λ f. part_is (λ u. f u.own) views id v w at in record {
  gauges = λ g b. let p = part (λ x. amount_on g x.ticks) in d.gauges g p.0 b (h.gauges g b ∙ ap (λ (z : ℕ). z % wide) p.1) ∙ ap (λ (z : ℕ). z % wide) (sym p.2);
  advances = advances;
  set = λ a. let p = part (λ x. times a x.set) in d.set a p.0 (h.set a ∙ p.1) ∙ sym p.2;
  fired = λ a. let p = part (λ x. times a x.fired) in d.fired a p.0 (h.fired a ∙ p.1) ∙ sym p.2;
  cancelled = λ a. let p = part (λ x. times a x.cancelled) in d.cancelled a p.0 (h.cancelled a ∙ p.1) ∙ sym p.2;
}

-- an event that leaves the clock
pub listed_event : (first : ℕ) (m n : Reading) (views : List SeatView) (id : ℕ) (v w : SeatView) → ViewsShow first m views → get_elem? views id ≡ some v → Lists m n v.own w.own → n.clock ≡ m.clock → w.own.advances ≡ v.own.advances → ViewsShow first n (set views id w)
listed_event first m n views id v w h at d clock advances = listed first m n views id v w h at d
    (subst (λ (z : ℕ). AdvancesShow first z (set views id w)) (sym clock) (advances_same first m.clock views (set views id w) h.advances (λ f adds. total_kept (λ (u : SeatView). f u.own.advances) views id v w at (ap f advances))))

-- one more advance, to the tick after the clock
advances_more : (first clock : ℕ) (views : List SeatView) (id : ℕ) (v w : SeatView) → get_elem? views id ≡ some v → w.own.advances ≡ v.own.advances ++ (clock + 1) ∷ [] → AdvancesShow first clock views → AdvancesShow first (clock + 1) (set views id w)
advances_more first clock views id v w at more h =
    let on : (t : ℕ) → total (λ u. times_to t u.own.advances) (set views id w) ≡ total (λ u. times_to t u.own.advances) views + cond (eqb (clock + 1) t) 1 0 =
    λ t. (let p : times_to t (v.own.advances ++ (clock + 1) ∷ []) ≡ times_to t v.own.advances + cond (eqb (clock + 1) t) 1 0 = sum_by_push (λ x. cond (eqb x t) 1 0) v.own.advances (clock + 1) in let q = ap (times_to t) more in let s = total_set (λ u. times_to t u.own.advances) views id v w at in omega arith) in
    let other : (t : ℕ) → clock + 1 ≢ t → total (λ u. times_to t u.own.advances) (set views id w) ≡ total (λ u. times_to t u.own.advances) views =
    λ t ne. (let z : ◌≡◌ {A = ℕ} (cond (eqb (clock + 1) t) 1 0) 0 = ap (λ (x : Bool). cond {A = ℕ} x 1 0) (ne_eqb (clock + 1) t ne) in let o = on t in omega arith) in
    let number = h.number in record {
      number = (let l = ap length more in let a = length-append v.own.advances ((clock + 1) ∷ []) in let s = total_set (λ u. length u.own.advances) views id v w at in omega arith);
      once = λ t past upto. dite (ℕ_discrete (clock + 1) t)
          (λ is. let z : ◌≡◌ {A = ℕ} (cond (eqb (clock + 1) t) 1 0) 1 = ap (λ (x : Bool). cond {A = ℕ} x 1 0) (eq-eqb (clock + 1) t is) in let o = on t in let none = h.never t (inr (omega arith)) in omega arith)
          (λ ne. other t ne ∙ h.once t past (omega arith));
      never = λ t out. let ne : clock + 1 ≢ t = (λ e. ⊎_elim (λ a. omega arith) (λ b. omega arith) out) in other t ne ∙ h.never t (outside t ne out);
    }
  where
    outside : (t : ℕ) → clock + 1 ≢ t → (t ≤ first) ⊎ (clock + 1 < t) → (t ≤ first) ⊎ (clock < t)
    outside t ne (inl a) = inl a
    outside t ne (inr b) = inr (omega arith)

-- an advance
pub listed_advance : (first : ℕ) (m n : Reading) (views : List SeatView) (id : ℕ) (v w : SeatView) → ViewsShow first m views → get_elem? views id ≡ some v → Lists m n v.own w.own → n.clock ≡ m.clock + 1 → w.own.advances ≡ v.own.advances ++ (m.clock + 1) ∷ [] → ViewsShow first n (set views id w)
listed_advance first m n views id v w h at d clock more = listed first m n views id v w h at d (subst (λ (z : ℕ). AdvancesShow first z (set views id w)) (sym clock) (advances_more first m.clock views id v w at more h.advances))

-- what an end has it has no more often than all ends
pub is_part : (first : ℕ) (m : Reading) (views : List SeatView) (id : ℕ) (v w : SeatView) → ViewsShow first m views → get_elem? views id ≡ some v → w.own ≡ v.own → w.seen.object ≡ m → IsPart w
is_part first m views id v w h at own seen = let below : (f : MeterOps → ℕ) (n k : ℕ) → k ≡ n → n ≡ all_did f views → f w.own ≤ k = λ f n k is sum. (let o = one_of (λ (u : SeatView). f u.own) views id v at in let e = ap f own in omega arith) in record {
  set = λ a. below (λ d. times a d.set) (times a m.set) (times a w.seen.object.set) (λ i. times a (seen i).set) (h.set a);
  fired = λ a. below (λ d. times a d.fired) (times a m.fired) (times a w.seen.object.fired) (λ i. times a (seen i).fired) (h.fired a);
  cancelled = λ a. below (λ d. times a d.cancelled) (times a m.cancelled) (times a w.seen.object.cancelled) (λ i. times a (seen i).cancelled) (h.cancelled a);
}
