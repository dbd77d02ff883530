-- The order of places that were sorted by their keys, and of the lines there.
use Rattle.boot_report.proofs.Common.{◌≡◌, ℕ, zero, suc, ◌<◌, ◌≤◌, List, [], ◌∷◌, get_or, map, refl, ap, subst, arith, Some, slice_get, slice_get_within, Key, Line, Ascend, ◌⊎◌, inl, inr, searchable_from_sorted, get_or_from_slice_get, HeardPlace, Heard, heard_at, IsUpTo}
use Rattle.std.specs.Cmp.{IsTotalOrder, ranks}
use Rattle.std.specs.declared.cmp.Ordering.{Ordering}
use Rattle.std.specs.declared.cmp.Ordering.TheVariants.{Less, Equal, Greater}
use Rattle.std.specs.Ordering.{MatchOrdering, nat_cmp, ordering_then, ordering_index}
use Rattle.std.specs.List.Sorted.{IsSortedByKey}
use Rattle.std.proofs.lemmas.Cmp.{then_total, on_total, nat_cmp_total, tied_itself}

abbrev pub key_cmp : Key → Key → Ordering
key_cmp a b = ordering_then (nat_cmp a.0 b.0) (nat_cmp a.1 b.1)

abbrev pub key_of : HeardPlace → Key
key_of place = (place.thread, place.step)

key_total : IsTotalOrder key_cmp
key_total = then_total (on_total (λ (k : Key). k.0) nat_cmp_total) (on_total (λ (k : Key). k.1) nat_cmp_total)

by_cases : (x y u v : ℕ) (r s : Ordering) → MatchOrdering r (x < y) (x ≡ y) (y < x) → MatchOrdering s (u < v) (u ≡ v) (v < u)
    → ordering_index (ordering_then r s) ≤ 1 → (x < y) ⊎ ((x ≡ y) × (u ≤ v))
by_cases x y u v Less s h k low = inl h
by_cases x y u v Equal Less h k low = inr (h, omega arith)
by_cases x y u v Equal Equal h k low = inr (h, omega arith)
by_cases x y u v Equal Greater h k low = absurd (omega arith)
by_cases x y u v Greater s h k low = absurd (omega arith)

module _ (processors : List Heard) where
  got_place : (xs : List HeardPlace) (i : ℕ) (a : Line) → slice_get (map (heard_at processors) xs) i ≡ Some a → (x : HeardPlace) × (slice_get xs i ≡ Some x) × (heard_at processors x ≡ a)
  got_place [] i a is = absurd (cc)
  got_place (x ∷ xs) zero a is = (x, refl, cc)
  got_place (x ∷ xs) (suc i) a is = got_place xs i a is

  pub ascending : (xs : List HeardPlace) → IsSortedByKey key_of key_cmp xs → Ascend (map (heard_at processors) xs)
  ascending xs up i j a b here there low =
      let x = got_place xs i a here in let y = got_place xs j b there in
      let rises = searchable_from_sorted key_total key_of xs (key_of y.0) up i j x.0 (omega arith) (slice_get_within xs j y.0 y.1) in
      let is_x : get_or xs i x.0 ≡ x.0 = get_or_from_slice_get xs i x.0 x.0 x.1 in
      let is_y : get_or xs j x.0 ≡ y.0 = get_or_from_slice_get xs j y.0 x.0 y.1 in
      let index = λ (p : HeardPlace). ordering_index (key_cmp (key_of p) (key_of y.0)) in
      let tied : index y.0 ≡ 1 = ap ordering_index (tied_itself key_total (key_of y.0)) in
      let no_more : index x.0 ≤ 1 = omega (arith, rises, ap index is_x, ap index is_y, tied) in
      let up_to : IsUpTo (heard_at processors x.0) (heard_at processors y.0) = by_cases x.0.thread y.0.thread x.0.step y.0.step _ _ (ranks x.0.thread y.0.thread) (ranks x.0.step y.0.step) no_more in
      subst (λ (z : Line). IsUpTo z b) x.2 (subst (λ (z : Line). IsUpTo (heard_at processors x.0) z) y.2 up_to)
