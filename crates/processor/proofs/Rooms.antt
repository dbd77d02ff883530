-- Steps of a plan that hear, none of them twice, are no more than the plan has.
use Rattle.processor.proofs.Common.{◌≡◌, inl, inr, ℕ, zero, suc, ◌+◌, ◌≤◌, ◌==◌, ◌&&◌, ◌||◌, Bool, true, false, cond, if◌then◌else◌, List, [], ◌∷◌, ◌++◌, length, Some, refl, sym, ◌∙◌, ap, subst, arith, eqb-true, nat_tests, list_any-append, sum_by-cons, count_by, sum_by, AllByRecursion, BootPlan, PlannedThread, Step, steps_at, Key, same_key, is_hear, hears_in, hear_count, IsHear, AreHears, slice_get, list_any, same_Some}
use Rattle.std.proofs.Common.{length-append, zero-add}
use Rattle.std.proofs.lemmas.Bool.{eq-eqb, and_parts as split, or_cases as either}
use Rattle.std.proofs.lemmas.Map.Made.{length-le_from_is_member}
use Rattle.std.specs.Cmp.{IsEquivalence}
use Rattle.std.proofs.Math.Bool.{or-true as or_true}

same_is : (a b : Key) → same_key a b ≡ true → (a.0 ≡ b.0) × (a.1 ≡ b.1)
same_is a b h = let p = split (a.0 == b.0) (a.1 == b.1) h in (eqb-true a.0 b.0 p.0, eqb-true a.1 b.1 p.1)

pub same_refl : (a : Key) → same_key a a ≡ true
same_refl a = grind (arith, nat_tests, eq-eqb a.0 a.0 refl, eq-eqb a.1 a.1 refl)

same_symm : (a b : Key) → same_key a b ≡ same_key b a
same_symm a b = grind (arith, nat_tests)

same_laws : IsEquivalence same_key
same_laws = record {
  refl = same_refl;
  symm = same_symm;
  congr = λ a b z h. let p = same_is a b h in ap (λ (k : ℕ). (k == z.0) && (a.1 == z.1)) p.0 ∙ ap (λ (k : ℕ). (b.0 == z.0) && (k == z.1)) p.1;
}

-- the steps of a program that hear; the program's first step has this number
abbrev keys_in : ℕ → ℕ → List Step → List Key
keys_in thread number [] = []
keys_in thread number (step ∷ steps) = (if is_hear step then (thread, number) ∷ [] else []) ++ keys_in thread (number + 1) steps

in_first : (xs ys : List Key) (q : Key) → list_any (same_key q) xs ≡ true → list_any (same_key q) (xs ++ ys) ≡ true
in_first xs ys q h = list_any-append (same_key q) xs ys ∙ ap (λ b. b || list_any (same_key q) ys) h

in_second : (xs ys : List Key) (q : Key) → list_any (same_key q) ys ≡ true → list_any (same_key q) (xs ++ ys) ≡ true
in_second xs ys q h = list_any-append (same_key q) xs ys ∙ ap (λ b. list_any (same_key q) xs || b) h ∙ or_true (list_any (same_key q) xs)

one_more : (b : Bool) (key : Key) (keys : List Key) → length ((if b then key ∷ [] else []) ++ keys) ≡ (if b then 1 else 0) + length keys
one_more true key keys = omega arith
one_more false key keys = omega arith

keys_in_long : (thread number : ℕ) (steps : List Step) → length (keys_in thread number steps) ≡ count_by is_hear steps
keys_in_long thread number [] = refl
keys_in_long thread number (step ∷ steps) =
    one_more (is_hear step) (thread, number) (keys_in thread (number + 1) steps) ∙ ap (λ n. (if is_hear step then 1 else 0) + n) (keys_in_long thread (number + 1) steps)
    ∙ sym (sum_by-cons (λ (x : Step). cond (is_hear x) 1 0) step steps)

key_at : (thread k n : ℕ) (keys : List Key) → k ≡ n → list_any (same_key (thread, k)) keys ≡ true → list_any (same_key (thread, n)) keys ≡ true
key_at thread k n keys e h = subst (λ (z : ℕ). list_any (same_key (thread, z)) keys ≡ true) e h

is_first : (b : Bool) (key : Key) (keys : List Key) → b ≡ true → list_any (same_key key) ((if b then key ∷ [] else []) ++ keys) ≡ true
is_first true key keys h = ap (λ b. b || list_any (same_key key) keys) (same_refl key)
is_first false key keys h = cc

is_in_keys : (thread number k : ℕ) (steps : List Step) (step : Step) → slice_get steps k ≡ Some step → is_hear step ≡ true
    → list_any (same_key (thread, number + k)) (keys_in thread number steps) ≡ true
is_in_keys thread number k [] step e h = cc
is_in_keys thread number zero (s ∷ steps) step e h =
    key_at thread number (number + 0) (keys_in thread number (s ∷ steps)) (omega arith)
    (is_first (is_hear s) (thread, number) (keys_in thread (number + 1) steps) (ap is_hear (same_Some s step e) ∙ h))
is_in_keys thread number (suc k) (s ∷ steps) step e h =
    in_second (if is_hear s then (thread, number) ∷ [] else []) (keys_in thread (number + 1) steps) (thread, number + suc k)
    (key_at thread ((number + 1) + k) (number + suc k) (keys_in thread (number + 1) steps) (omega arith) (is_in_keys thread (number + 1) k steps step e h))

-- the steps of these programs that hear; the first thread has this number
abbrev keys_of : ℕ → List PlannedThread → List Key
keys_of number [] = []
keys_of number (t ∷ ts) = keys_in number 0 t.steps ++ keys_of (number + 1) ts

keys_of_long : (number : ℕ) (threads : List PlannedThread) → length (keys_of number threads) ≡ sum_by hears_in threads
keys_of_long number [] = refl
keys_of_long number (t ∷ ts) = length-append (keys_in number 0 t.steps) (keys_of (number + 1) ts)
    ∙ ap (λ n. n + length (keys_of (number + 1) ts)) (keys_in_long number 0 t.steps) ∙ ap (λ n. hears_in t + n) (keys_of_long (number + 1) ts)
    ∙ sym (sum_by-cons hears_in t ts)

thread_at : (a b k : ℕ) (keys : List Key) → a ≡ b → list_any (same_key (a, k)) keys ≡ true → list_any (same_key (b, k)) keys ≡ true
thread_at a b k keys e h = subst (λ (z : ℕ). list_any (same_key (z, k)) keys ≡ true) e h

is_in_plan : (number e k : ℕ) (threads : List PlannedThread) (step : Step) → slice_get (steps_at threads e) k ≡ Some step → is_hear step ≡ true
    → list_any (same_key (number + e, k)) (keys_of number threads) ≡ true
is_in_plan number e k [] step is h = cc
is_in_plan number zero k (t ∷ ts) step is h =
    thread_at number (number + 0) k (keys_of number (t ∷ ts)) (omega arith)
    (in_first (keys_in number 0 t.steps) (keys_of (number + 1) ts) (number, k) (key_at number (0 + k) k (keys_in number 0 t.steps) (zero-add k) (is_in_keys number 0 k t.steps step is h)))
is_in_plan number (suc e) k (t ∷ ts) step is h =
    in_second (keys_in number 0 t.steps) (keys_of (number + 1) ts) (number + suc e, k)
    (thread_at ((number + 1) + e) (number + suc e) k (keys_of (number + 1) ts) (omega arith) (is_in_plan (number + 1) e k ts step is h))

same_in : (a b : Key) (keys : List Key) → same_key a b ≡ true → list_any (same_key b) keys ≡ true → list_any (same_key a) keys ≡ true
same_in a b keys e h = let p = same_is a b e in
    subst (λ (z : ℕ). list_any (same_key (z, a.1)) keys ≡ true) (sym p.0) (subst (λ (z : ℕ). list_any (same_key (b.0, z)) keys ≡ true) (sym p.1) h)

all_in : (plan : BootPlan) (keys : List Key) → AllByRecursion (IsHear plan) keys → (q : Key) → list_any (same_key q) keys ≡ true
    → list_any (same_key q) (keys_of 0 plan.threads) ≡ true
all_in plan [] all q h = cc
all_in plan (key ∷ keys) all q h = elim (either (same_key q key) (list_any (same_key q) keys) h) [
  | inl e ↦ same_in q key (keys_of 0 plan.threads) e (thread_at (0 + key.0) key.0 key.1 (keys_of 0 plan.threads) (zero-add key.0)
      (is_in_plan 0 key.0 key.1 plan.threads all.0.step all.0.is all.0.hears))
  | inr e ↦ all_in plan keys all.1 q e
]

pub few : (plan : BootPlan) (keys : List Key) → AreHears plan keys → length keys ≤ hear_count plan
few plan keys h = subst (λ (n : ℕ). length keys ≤ n) (keys_of_long 0 plan.threads)
    (length-le_from_is_member same_laws keys (keys_of 0 plan.threads) h.1 (all_in plan keys h.0))
