-- What was done for something to be allowed.
use Rattle.std.proofs.Common.{◌≡◌, ℕ, Bool, true, false, cond, List, set, refl, sym, ap, Option, Some, None, slice_get, ok_or, Result, Ok, Err}
use Rattle.event_theory.specs.Results.{◌>>=◌, at, change_at}
use Rattle.event_theory.specs.declared.refusal.Refusal.{Refusal}
use Rattle.event_theory.specs.declared.refusal.Refusal.TheVariants.{UnknownName}

-- a chain of two that was allowed: the first gave something, and the second came of it
pub then_ok : {A B : Type 0} (said : Result A Refusal) (f : A → Result B Refusal) (r : B) → (said >>= f) ≡ Ok r
    → (x : A) × (said ≡ Ok x) × (f x ≡ Ok r)
then_ok (Ok x) f r ok = (x, refl, ok)
then_ok (Err e) f r ok = absurd (cc)

-- a test that refuses was false
pub test_ok : {A : Type 0} (test : Bool) (e : Refusal) (said : Result A Refusal) (r : A) → cond test (Err e) said ≡ Ok r → (test ≡ false) × (said ≡ Ok r)
test_ok true e said r ok = absurd (cc)
test_ok false e said r ok = (refl, ok)

pub given_ok : {A : Type 0} (x r : A) → ◌≡◌ {A = Result A Refusal} (Ok x) (Ok r) → x ≡ r
given_ok x r ok = cc

pub some_ok : {A : Type 0} (found : Option A) (e : Refusal) (x : A) → ok_or found e ≡ Ok x → found ≡ Some x
some_ok None e x ok = absurd (cc)
some_ok (Some y) e x ok = ap Some (given_ok y x ok)

-- a change in a list that was allowed: the old entry, and the new entry
pub change_ok : {A : Type 0} (index : ℕ) (change : A → Result A Refusal) (list r : List A) → change_at index change list ≡ Ok r
    → (old : A) × (new : A) × (slice_get list index ≡ Some old) × (change old ≡ Ok new) × (r ≡ set list index new)
change_ok index change list r ok =
    let whole = then_ok (at index list >>= change) (λ new. Ok (set list index new)) r ok in
    let part = then_ok (at index list) change whole.0 whole.1 in
    (part.0, whole.0, some_ok (slice_get list index) UnknownName part.0 part.1, part.2, sym (given_ok _ _ whole.2))
