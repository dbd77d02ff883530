-- Histories, the pairs of their items, and sets of pairs.
use Rattle.std.proofs.Common.{◌≡◌, ℕ, zero, suc, ◌+◌, ◌<◌, ◌≤◌, Bool, true, false, ◌&&◌, List, [], ◌∷◌, ◌++◌, length, drop, slice_get, refl, sym, ap, ◌∙◌, arith, append_assoc, length-append, add-zero, zero-add}
use Rattle.std.proofs.lemmas.Grind.{flat_map-append}
use Rattle.std.specs.List.{list_all}
use mathlib.Core.Path.{fun_ext}
use Rattle.event_theory.specs.Runs.{Run, flat, pairs_of, pairs_from, run_length}

-- two sets with the same pairs are the same
pub same_set : (f g : ℕ → ℕ → Bool) → ((run index : ℕ) → f run index ≡ g run index) → f ≡ g
same_set f g same = fun_ext (λ run. fun_ext (λ index. same run index))

pub both : (a b : Bool) → (a && b) ≡ true → (a ≡ true) × (b ≡ true)
both true b h = (refl, h)
both false b h = absurd (cc)

pub length-pairs_of : (run index : ℕ) (items : List ℕ) → length (pairs_of run index items) ≡ length items
length-pairs_of run index [] = refl
length-pairs_of run index (item ∷ items) = ap suc (length-pairs_of run (index + 1) items)

pub length-pairs_from : (number : ℕ) (history : List Run) → length (pairs_from number history) ≡ length (flat history)
length-pairs_from number [] = refl
length-pairs_from number (run ∷ runs) =
    simp length-append (omega (arith, length-pairs_of number 0 run.items, length-pairs_from (number + 1) runs))

pub pairs_from-append : (number : ℕ) (h k : List Run) → pairs_from number (h ++ k) ≡ pairs_from number h ++ pairs_from (number + length h) k
pairs_from-append number [] k = ap (λ n. pairs_from n k) (sym (add-zero number))
pairs_from-append number (run ∷ runs) k =
    let e : number + 1 + length runs ≡ number + suc (length runs) = omega arith in
    rw (pairs_from-append (number + 1) runs k, e) (sym (append_assoc (pairs_of number 0 run.items) (pairs_from (number + 1) runs) (pairs_from (number + suc (length runs)) k)))

pub flat-append : (h k : List Run) → flat (h ++ k) ≡ flat h ++ flat k
flat-append h k = flat_map-append _ h k

-- a history's runs stay when one is appended
pub run_length-append : (h k : List Run) (run : ℕ) → run_length h run ≤ run_length (h ++ k) run
run_length-append [] k run = omega arith
run_length-append (x ∷ h) k zero = omega arith
run_length-append (x ∷ h) k (suc run) = run_length-append h k run

pub solid-append : (h : List Run) (x : Run) → ((run : ℕ) → run < length h → 0 < run_length h run) → 0 < length x.items
    → (run : ℕ) → run < length (h ++ x ∷ []) → 0 < run_length (h ++ x ∷ []) run
solid-append [] x solid some zero within = some
solid-append [] x solid some (suc run) within = absurd (omega arith)
solid-append (y ∷ h) x solid some zero within = solid zero (omega arith)
solid-append (y ∷ h) x solid some (suc run) within =
    solid-append h x (λ r below. solid (suc r) (omega arith)) some run (omega arith)

-- what passes one test passes a weaker one
pub list_all-weaker : {X : Type 0} (p q : X → Bool) (xs : List X) → ((x : X) → p x ≡ true → q x ≡ true) → list_all p xs ≡ true → list_all q xs ≡ true
list_all-weaker p q [] weaker all = refl
list_all-weaker p q (x ∷ xs) weaker all =
    let h = both (p x) (list_all p xs) all in
    rw (weaker x h.0, list_all-weaker p q xs weaker h.1) refl

-- the entries of a list without its first items
pub slice_get-drop : {X : Type 0} (xs : List X) (k i : ℕ) → slice_get (drop k xs) i ≡ slice_get xs (k + i)
slice_get-drop xs zero i = ap (slice_get xs) (sym (zero-add i))
slice_get-drop [] (suc k) i = refl
slice_get-drop (x ∷ xs) (suc k) i = let e : suc k + i ≡ suc (k + i) = omega arith in slice_get-drop xs k i ∙ ap (slice_get (x ∷ xs)) (sym e)
