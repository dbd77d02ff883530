-- Each queue event keeps a lawful queue.
use Rattle.std.proofs.Common.{◌≡◌, ℕ, ◌+◌, ◌<◌, ◌≤◌, ◌-◌, Bool, true, false, ◌&&◌, ◌||◌, not, List, [], ◌∷◌, ◌++◌, ◌∙◌, length, take, drop, refl, sym, ap, subst, arith, append-nil, length-append, length-drop, Option, Some, None, slice_get, eqb, ◌⊎◌, inl, inr, nat_le, leb, ltb, Ok}
use Rattle.std.proofs.lemmas.Bool.{eqb-true, leb-true}
use Rattle.std.proofs.lemmas.List.{take-append-le, drop-append-le}
use Rattle.std.proofs.lemmas.List.Folds.{list_all-append}
use Rattle.std.proofs.Math.Seq.{take-add}
use Rattle.std.specs.List.{list_all}
use Rattle.std.specs.Cmp.Derive.{both_true}
use Rattle.std.proofs.lemmas.Bool.Decides.{nat_tests}
use Rattle.event_theory.specs.Runs.{Run, flat, pairs_from, pairs, length_of, run_length}
use Rattle.event_theory.specs.Queues.{Queue, left, left_pairs, is_raised, first_are_raised, after_claim, after_raise, after_take, claim, raise_of, raise, take_first}
use Rattle.event_theory.specs.declared.refusal.Refusal.TheVariants.{UnknownName, NoItems, TooLong, Full, NotOwner, AlreadyRaised, NotRaised, Closed}
use Rattle.event_theory.specs.Lawful.{IsLawfulQueue}
use Rattle.event_theory.specs.Marks.{shut}
use Rattle.event_theory.proofs.Lists.Inversions.{test_ok, given_ok}
use Rattle.event_theory.proofs.Lists.Histories.{both, length-pairs_from, pairs_from-append, flat-append, run_length-append, solid-append, list_all-weaker}

pub claim_keeps : (call : ℕ) (items : List ℕ) (q : Queue) → IsLawfulQueue q → 0 < length items → length (left q) + length items ≤ q.capacity
    → IsLawfulQueue (after_claim call items q)
claim_keeps call items q lawful some room =
    let run : Run = record { call = call; items = items } in
    let longer : length (pairs q.history) ≡ length (flat q.history) = length-pairs_from 0 q.history in
    let joined : flat (q.history ++ run ∷ []) ≡ flat q.history ++ items = flat-append q.history (run ∷ []) ∙ ap (λ xs. flat q.history ++ xs) (append-nil items) in
    let following : q.taken ≤ length (flat q.history) = lawful.taken_within in
    let in_pairs : q.taken ≤ length (pairs q.history) = omega arith in
    record {
      solid = solid-append q.history run lawful.solid some;
      within = λ r i h. omega (arith, lawful.within r i h, run_length-append q.history (run ∷ []) r);
      taken_within = rw joined (omega (arith, length-append (flat q.history) items));
      ready = rw (pairs_from-append 0 q.history (run ∷ []), take-append-le q.taken (pairs q.history) (pairs_from (0 + length q.history) (run ∷ [])) in_pairs) lawful.ready;
      fits = rw (joined, drop-append-le q.taken (flat q.history) items following) (omega (arith, length-append (left q) items));
    }

pair_cases : (a b : Bool) (r i run index : ℕ) → a ≡ eqb r run → b ≡ eqb i index → (old : Bool) → ((a && b) || old) ≡ true → ((r ≡ run) × (i ≡ index)) ⊎ (old ≡ true)
pair_cases true true r i run index ea eb old h = inl (eqb-true r run (sym ea), eqb-true i index (sym eb))
pair_cases true false r i run index ea eb old h = inr h
pair_cases false b r i run index ea eb old h = inr h

or_true : (a b : Bool) → b ≡ true → (a || b) ≡ true
or_true true b h = refl
or_true false b h = h

within_raised : (q : Queue) (run index : ℕ) → IsLawfulQueue q → index < run_length q.history run → (r i : ℕ)
    → ((r ≡ run) × (i ≡ index)) ⊎ (q.raised r i ≡ true) → i < run_length q.history r
within_raised q run index lawful here r i (inl same) =
    subst (λ x. i < run_length q.history x) (sym same.0) (subst (λ x. x < run_length q.history run) (sym same.1) here)
within_raised q run index lawful here r i (inr before) = lawful.within r i before

pub raise_keeps : (run index : ℕ) (q : Queue) → IsLawfulQueue q → index < run_length q.history run → IsLawfulQueue (after_raise run index q)
raise_keeps run index q lawful here = record {
  solid = lawful.solid;
  within = λ r i h. within_raised q run index lawful here r i (pair_cases (eqb r run) (eqb i index) r i run index refl refl (q.raised r i) h);
  taken_within = lawful.taken_within;
  ready = list_all-weaker (is_raised q) (is_raised (after_raise run index q)) (take q.taken (pairs q.history)) (λ p h. or_true _ _ h) lawful.ready;
  fits = lawful.fits;
}

pub take_keeps : (count : ℕ) (q : Queue) → IsLawfulQueue q → first_are_raised count q ≡ true → IsLawfulQueue (after_take count q)
take_keeps count q lawful first =
    let h = both (nat_le count (length (left q))) (list_all (is_raised q) (take count (left_pairs q))) first in
    let enough : count ≤ length (left q) = leb-true count (length (left q)) h.0 in
    let following : q.taken ≤ length (flat q.history) = lawful.taken_within in
    let fits : length (left q) ≤ q.capacity = lawful.fits in
    let rest : length (left q) ≡ length (flat q.history) - q.taken = length-drop q.taken (flat q.history) in
    let later : length (drop (q.taken + count) (flat q.history)) ≡ length (flat q.history) - (q.taken + count) = length-drop (q.taken + count) (flat q.history) in
    record {
      solid = lawful.solid;
      within = lawful.within;
      taken_within = omega arith;
      ready = rw (take-add q.taken count (pairs q.history), list_all-append (is_raised q) (take q.taken (pairs q.history)) (take count (left_pairs q))) (both_true lawful.ready h.1);
      fits = omega arith;
    }

pub claim_law : (longest call : ℕ) (items : List ℕ) (q r : Queue) → IsLawfulQueue q → claim longest call items q ≡ Ok r → IsLawfulQueue r
claim_law longest call items q r lawful ok =
    let a = test_ok (eqb (length items) 0) NoItems _ r ok in
    let b = test_ok (ltb longest (length items)) TooLong _ r a.1 in
    let c = test_ok q.shut Closed _ r b.1 in
    let d = test_ok (ltb q.capacity (length (left q) + length items)) Full _ r c.1 in
    let none : eqb (length items) 0 ≡ false = a.0 in
    let full : ltb q.capacity (length (left q) + length items) ≡ false = d.0 in
    let some : 0 < length items = grind (arith, nat_tests) in
    let room : length (left q) + length items ≤ q.capacity = grind (arith, nat_tests) in
    subst IsLawfulQueue (given_ok (after_claim call items q) r d.1) (claim_keeps call items q lawful some room)

raise_found : (call run index : ℕ) (q r : Queue) (claimed : Option Run) → IsLawfulQueue q → slice_get q.history run ≡ claimed → raise_of call run index q claimed ≡ Ok r → IsLawfulQueue r
raise_found call run index q r None lawful eg ok = absurd (cc)
raise_found call run index q r (Some e) lawful eg ok =
    let a = test_ok (leb (length e.items) index) UnknownName _ r ok in
    let b = test_ok (not (eqb e.call call)) NotOwner _ r a.1 in
    let c = test_ok (q.raised run index) AlreadyRaised _ r b.1 in
    let past : leb (length e.items) index ≡ false = a.0 in
    let below : index < length e.items = grind (arith, nat_tests) in
    subst IsLawfulQueue (given_ok (after_raise run index q) r c.1) (raise_keeps run index q lawful (subst (λ x. index < length_of x) (sym eg) below))

pub raise_law : (call run index : ℕ) (q r : Queue) → IsLawfulQueue q → raise call run index q ≡ Ok r → IsLawfulQueue r
raise_law call run index q r lawful ok = raise_found call run index q r (slice_get q.history run) lawful refl ok

not_false : (b : Bool) → not b ≡ false → b ≡ true
not_false true h = refl
not_false false h = absurd (cc)

-- what a taking that was allowed left, and that the items were there and raised
pub take_ok : (longest count : ℕ) (q r : Queue) → take_first longest count q ≡ Ok r → (r ≡ after_take count q) × (0 < count) × (count ≤ longest) × (first_are_raised count q ≡ true)
take_ok longest count q r ok =
    let a = test_ok (eqb count 0) NoItems _ r ok in
    let b = test_ok (ltb longest count) TooLong _ r a.1 in
    let c = test_ok (not (first_are_raised count q)) NotRaised _ r b.1 in
    let none : eqb count 0 ≡ false = a.0 in
    let short : ltb longest count ≡ false = b.0 in
    (sym (given_ok (after_take count q) r c.1), grind (arith, nat_tests), grind (arith, nat_tests), not_false (first_are_raised count q) c.0)

pub take_law : (longest count : ℕ) (q r : Queue) → IsLawfulQueue q → take_first longest count q ≡ Ok r → IsLawfulQueue r
take_law longest count q r lawful ok =
    let h = take_ok longest count q r ok in
    subst IsLawfulQueue (sym h.0) (take_keeps count q lawful h.3)

pub shut_law : (q : Queue) → IsLawfulQueue q → IsLawfulQueue (shut q)
shut_law q lawful = record { solid = lawful.solid; within = lawful.within; taken_within = lawful.taken_within; ready = lawful.ready; fits = lawful.fits }
