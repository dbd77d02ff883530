-- The consequences if a table's events settle: for the crates above, which know the events as those of a first hand and
-- the rest.
use Rattle.turn_dispatch.proofs.Common.{◌==◌, ◌&&◌, ◌||◌, is_in, View, Tally, tally, followed_by, is_delivered}
use Rattle.boot_laws.proofs.Common.{same_pair, IsOnceWhere, is_free, place_of, Settles, if◌then◌else◌, nat_lt}
use Rattle.boot_laws.proofs.Settling.Common.{eq-eqb, dite, dec_lt, ELEMENTS, Place, ClosedNow, plus, many_cons, many_more, by_bool, any_is, is_less}
use Rattle.thread_table.proofs.Common.{◌≡◌, ⊎_elim, ℕ, ◌<◌, ◌≤◌, Bool, true, false, eqb_tells, List, [], ◌∷◌, ◌++◌, ◌∙◌, length, get_or, refl, sym, ap, arith, count_by, list_any}
use Rattle.boot_laws.proofs.Settling.Retired.{retired_settle}
use Rattle.boot_laws.proofs.Settling.Signals.{signals_settle}
use Rattle.boot_laws.proofs.Settling.Steps.{steps_settle}

-- the sum of all events of a closed table
pub closed_settles : (call : ℕ) (v : View) (stands : List Place) (pcs pending : List ℕ) (stops : ℕ) → ClosedNow call v stands pcs pending stops → Settles (tally v.own.made) stands pcs pending
closed_settles call v stands pcs pending stops closed = record {
  steps = λ x n. steps_settle x n call v stands pcs pending stops closed;
  signals = λ x n low few. signals_settle x n call v stands pcs pending stops closed low few;
  retired = λ took x n low. retired_settle x n call v stands pcs pending stops closed took low;
}

module _ (x : ℕ) where
  -- the pair is of the element
  abbrev pub is_of : ℕ × ℕ → Bool
  is_of r = r.0 == x

  -- a pair of the element is there with some number
  with_some : (rs : List (ℕ × ℕ)) → list_any is_of rs ≡ true → (n : ℕ) × (1 ≤ count_by (same_pair (x, n)) rs)
  with_some [] any = absurd (cc)
  with_some (r ∷ rs) any = by_bool (is_of r)
      (λ is. let c = many_cons (same_pair (x, r.1)) r rs in
      let one : plus (same_pair (x, r.1) r) ≡ 1 = ⊎_elim (λ t. λ i. plus (eq-eqb x r.0 (sym t.1) i && eq-eqb r.1 r.1 refl i)) (λ f. absurd (cc)) (eqb_tells r.0 x) in (r.1, omega arith))
      (λ isnt. let s = with_some rs (sym (ap (λ z. z || list_any is_of rs) isnt) ∙ any) in let c = many_cons (same_pair (x, s.0)) r rs in (s.0, omega arith))

  -- if a pair is there, its element is
  of_pair : (n : ℕ) (rs : List (ℕ × ℕ)) → list_any (same_pair (x, n)) rs ≡ true → list_any is_of rs ≡ true
  of_pair n [] any = absurd (cc)
  of_pair n (r ∷ rs) any = by_bool (is_of r)
      (λ is. ap (λ z. z || list_any is_of rs) is)
      (λ isnt. let other : same_pair (x, n) r ≡ false = ⊎_elim (λ t. let z : true ≡ false = sym (eq-eqb r.0 x (sym t.1)) ∙ isnt in absurd (cc)) (λ f. ap (λ b. b && (n == r.1)) f.0) (eqb_tells x r.0) in
      ap (λ z. z || list_any is_of rs) isnt ∙ of_pair n rs (sym (ap (λ z. z || list_any (same_pair (x, n)) rs) other) ∙ any))

-- The first hand counted no step, and raised and delivered no signal, and what it retired is not this element; the
-- hands took what was free at first. So the element's steps, signals and retirement are those of the rest
module _ (first rest : Tally) (stands : List Place) (pcs pending : List ℕ) (s : Settles (followed_by first rest) stands pcs pending) (x : ℕ) (low : x < ELEMENTS) where
  pub steps_of_rest : first.done ≡ [] → (n : ℕ) → IsOnceWhere (nat_lt n (get_or pcs x 0)) (x, n) rest.done
  steps_of_rest none n = ap (λ l. count_by (same_pair (x, n)) (l ++ rest.done)) (sym none) ∙ (s.steps x n ∙ ap (λ (b : Bool). if b && nat_lt n (get_or pcs x 0) then 1 else 0) (is_less x 64 low))

  pub signals_of_rest : first.signalled ≡ [] → first.delivered ≡ [] → (n : ℕ) → n < 16
      → list_any (same_pair (x, n)) rest.signalled ≡ (is_delivered rest.delivered x n || is_in (get_or pending x 0) n)
  signals_of_rest none none_given n few = ap (λ l. list_any (same_pair (x, n)) (l ++ rest.signalled)) (sym none)
      ∙ (s.signals x n low few ∙ ap (λ l. is_delivered (l ++ rest.delivered) x n || is_in (get_or pending x 0) n) none_given)

  module _ (took : length (first.taken ++ rest.taken) ≡ ELEMENTS) (spare : list_any (is_of x) first.retired ≡ false) where
    none_first : (n : ℕ) → count_by (same_pair (x, n)) first.retired ≡ 0
    none_first n = dite (dec_lt 0 (count_by (same_pair (x, n)) first.retired))
        (λ some. let z : true ≡ false = sym (of_pair x n first.retired (any_is (same_pair (x, n)) first.retired ∙ is_less 0 (count_by (same_pair (x, n)) first.retired) some)) ∙ spare in absurd (cc))
        (λ no. omega (arith, no))

    once : (n : ℕ) → IsOnceWhere (is_free (place_of stands x) && (n == get_or pcs x 0)) (x, n) rest.retired
    once n = let a = none_first n in let b = many_more (same_pair (x, n)) first.retired rest.retired in
        let c : count_by (same_pair (x, n)) rest.retired ≡ count_by (same_pair (x, n)) (first.retired ++ rest.retired) = omega arith in
        let taken : nat_lt x (length (first.taken ++ rest.taken)) ≡ true = is_less x (length (first.taken ++ rest.taken)) (omega arith) in
        c ∙ (s.retired (omega arith) x n low ∙ ap (λ (b : Bool). if b && is_free (place_of stands x) && (n == get_or pcs x 0) then 1 else 0) taken)

    -- after the steps that are reported
    pub retired_last : is_free (place_of stands x) ≡ true → list_any (same_pair (x, get_or pcs x 0)) rest.retired ≡ true
    retired_last free = let n : ℕ = get_or pcs x 0 in
        let o : count_by (same_pair (x, n)) rest.retired ≡ 1 = once n ∙ (λ i. if free i && eq-eqb n n refl i then 1 else 0) in
        any_is (same_pair (x, n)) rest.retired ∙ is_less 0 (count_by (same_pair (x, n)) rest.retired) (omega arith)

    pub retired_where_free : list_any (is_of x) rest.retired ≡ is_free (place_of stands x)
    retired_where_free = by_bool (is_free (place_of stands x))
        (λ free. of_pair x (get_or pcs x 0) rest.retired (retired_last free) ∙ sym free)
        (λ other. by_bool (list_any (is_of x) rest.retired)
        (λ any. let w = with_some x rest.retired any in
        let none : count_by (same_pair (x, w.0)) rest.retired ≡ 0 = once w.0 ∙ ap (λ (b : Bool). if b && (w.0 == get_or pcs x 0) then 1 else 0) other in let some = w.1 in absurd (omega arith))
        (λ none. none ∙ sym other))
