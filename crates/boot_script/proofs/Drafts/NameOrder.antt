-- Names in order: each name has one number of its kind, and each number one name.
use Rattle.boot_script.proofs.Common.{◌≡◌, inl, inr, ℕ, ◌<◌, ◌≤◌, ◌+◌, ◌&&◌, List, [], ◌∷◌, ◌++◌, ◌∙◌, refl, sym, ap, arith, append_assoc, true, false, Bool, cond, Ok, eqb, nat_tests, append-nil, bytes_eq-Decides, bytes_eq, NameUnknown, Kind, Named, is_name, same_kind, if_kind, find, is_declared, count_of, FollowInOrder, name_of_number}
use Rattle.std.proofs.lemmas.Bool.{and_parts as both, or_parts as neither}
use Rattle.boot_script.proofs.Basics.Bools.{either}
use Rattle.boot_script.proofs.Basics.Binds.{guard_ok, chosen}
use Rattle.boot_script.proofs.Drafts.NamesSoFar.{kinds, count_push, count_cons}

-- what isn't declared with one name more wasn't before
pub not_pushed : (earlier : List Named) (named : Named) (name : List ℕ) → is_declared (earlier ++ named ∷ []) name ≡ false → (is_declared earlier name ≡ false) × (bytes_eq name named.name ≡ false)
unfolding is_declared
not_pushed [] named name h = (refl, (neither (bytes_eq name named.name) false h).0)
not_pushed (x ∷ xs) named name h =
    let k = neither (bytes_eq name x.name) (is_declared (xs ++ named ∷ []) name) h in
    let l = not_pushed xs named name k.1 in
    (rw k.0 l.0, l.1)

-- A name that is found after earlier ones is none of them, and its number is one of the later names of its kind
pub record IsFound (kind : Kind) (earlier names : List Named) (name : List ℕ) (n : ℕ) : Type 0 where
  pub apart : is_declared earlier name ≡ false
  pub from : count_of kind earlier ≤ n
  pub below : n < count_of kind earlier + count_of kind names
  pub named : name_of_number kind names n ≡ name
  pub form : is_name name ≡ true

one_counted : (kind : Kind) (x : Named) → same_kind x.kind kind ≡ true → ◌≡◌ {A = ℕ} (cond (same_kind x.kind kind) 1 0) 1
one_counted kind x same = rw same refl

none_counted : (kind : Kind) (x : Named) → same_kind x.kind kind ≡ false → ◌≡◌ {A = ℕ} (cond (same_kind x.kind kind) 1 0) 0
none_counted kind x other = rw other refl

found_first : (kind : Kind) (earlier : List Named) (x : Named) (names : List Named) (name : List ℕ) (n : ℕ) → FollowInOrder earlier (x ∷ names) → name ≡ x.name → same_kind x.kind kind ≡ true → x.number ≡ n → IsFound kind earlier (x ∷ names) name n
found_first kind earlier x names name n h same of number =
    let at : n ≡ count_of kind earlier = sym number ∙ (h.2 ∙ ap (λ k. count_of k earlier) (kinds x.kind kind of)) in
    let test : eqb x.number n ≡ true = grind (arith, nat_tests) in
    record {
      apart = ap (is_declared earlier) same ∙ h.1;
      from = omega (arith, at);
      below = omega (arith, at, count_cons kind x names, one_counted kind x of);
      named = rw (of, test) (sym same);
      form = ap is_name same ∙ h.0;
    }

-- the first name hasn't the number of a later one
skipped : (kind : Kind) (earlier : List Named) (x : Named) (n : ℕ) (b : Bool) → same_kind x.kind kind ≡ b → x.number ≡ count_of x.kind earlier → count_of kind (earlier ++ x ∷ []) ≤ n → (same_kind x.kind kind && eqb x.number n) ≡ false
skipped kind earlier x n true of number from =
    let at : x.number ≡ count_of kind earlier = number ∙ ap (λ k. count_of k earlier) (kinds x.kind kind of) in
    let less : x.number < n = omega (arith, at, from, count_push kind earlier x, one_counted kind x of) in
    let test : eqb x.number n ≡ false = grind (arith, nat_tests) in
    rw (of, test) refl
skipped kind earlier x n false of number from = rw of refl

pub found : (kind : Kind) (earlier names : List Named) (name : List ℕ) (n : ℕ) → FollowInOrder earlier names → find kind names name ≡ Ok n → IsFound kind earlier names name n
unfolding find
found kind earlier [] name n h e = absurd (cc)
found kind earlier (x ∷ names) name n h e =
    elim (chosen (bytes_eq name x.name) (if_kind kind x) (find kind names name) (Ok n) e) [
      | inl p ↦
          let g = guard_ok (same_kind x.kind kind) x.number n NameUnknown p.1 in
          found_first kind earlier x names name n h ((bytes_eq-Decides name x.name).0 p.0) g.0 g.1
      | inr p ↦
          let r = found kind (earlier ++ x ∷ []) names name n h.3 p.1 in
          record {
            apart = (not_pushed earlier x name r.apart).0;
            from = omega (arith, r.from, count_push kind earlier x);
            below = omega (arith, r.below, count_push kind earlier x, count_cons kind x names);
            named = rw (skipped kind earlier x n (same_kind x.kind kind) refl h.2 r.from) r.named;
            form = r.form;
          }
    ]

-- a number that isn't the first name's is one of a later name
later_from : (kind : Kind) (earlier : List Named) (x : Named) (n : ℕ) (b : Bool) → same_kind x.kind kind ≡ b → x.number ≡ count_of x.kind earlier → count_of kind earlier ≤ n → (same_kind x.kind kind && eqb x.number n) ≡ false → count_of kind (earlier ++ x ∷ []) ≤ n
later_from kind earlier x n true of number from other =
    let at : x.number ≡ count_of kind earlier = number ∙ ap (λ k. count_of k earlier) (kinds x.kind kind of) in
    let test : eqb x.number n ≡ false = ap (λ b. b && eqb x.number n) (sym of) ∙ other in
    let differs : x.number ≡ n → ⊥ = grind (arith, nat_tests) in
    omega (arith, at, from, differs, count_push kind earlier x, one_counted kind x of)
later_from kind earlier x n false of number from other = omega (arith, from, count_push kind earlier x, none_counted kind x of)

own_bytes : (bytes : List ℕ) → bytes_eq bytes bytes ≡ true
own_bytes bytes = (bytes_eq-Decides bytes bytes).1 refl

-- the name of each number is found again
pub number_found : (kind : Kind) (earlier names : List Named) (n : ℕ) → FollowInOrder earlier names → count_of kind earlier ≤ n → n < count_of kind earlier + count_of kind names → find kind names (name_of_number kind names n) ≡ Ok n
unfolding find
number_found kind earlier [] n h from below = absurd (omega (arith, from, below))
number_found kind earlier (x ∷ names) n h from below =
    elim (either (same_kind x.kind kind && eqb x.number n)) [
      | inl p ↦
          let k = both (same_kind x.kind kind) (eqb x.number n) p in
          let e : x.number ≡ n = grind (arith, nat_tests, k.1) in
          rw (p, own_bytes x.name, k.0) (ap Ok e)
      | inr p ↦
          let later : count_of kind (earlier ++ x ∷ []) ≤ n = later_from kind earlier x n (same_kind x.kind kind) refl h.2 from p in
          let again = number_found kind (earlier ++ x ∷ []) names n h.3 later (omega (arith, below, count_push kind earlier x, count_cons kind x names)) in
          let r = found kind (earlier ++ x ∷ []) names (name_of_number kind names n) n h.3 again in
          rw (p, (not_pushed earlier x (name_of_number kind names n) r.apart).1) again
    ]

-- names in order stay in order with a new name at their end
pub push_in_order : (earlier names : List Named) (named : Named) → FollowInOrder earlier names → is_name named.name ≡ true → is_declared (earlier ++ names) named.name ≡ false → named.number ≡ count_of named.kind (earlier ++ names) → FollowInOrder earlier (names ++ named ∷ [])
push_in_order earlier [] named h form new number =
    let e : earlier ++ [] ≡ earlier = append-nil earlier in
    (form, ap (λ ns. is_declared ns named.name) (sym e) ∙ new, number ∙ ap (count_of named.kind) e, tt)
push_in_order earlier (x ∷ names) named h form new number =
    let e : (earlier ++ x ∷ []) ++ names ≡ earlier ++ x ∷ names = append_assoc earlier (x ∷ []) names in
    (h.0, h.1, h.2, push_in_order (earlier ++ x ∷ []) names named h.3 form (ap (λ ns. is_declared ns named.name) e ∙ new) (number ∙ ap (count_of named.kind) (sym e)))
