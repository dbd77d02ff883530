-- The items of places that are claimed, or written to.
use Rattle.table_theory.proofs.Common.{◌≡◌, ℕ, zero, suc, List, [], ◌∷◌, map, get_or, set, refl, ap, Cell, blank, fresh, item_of}

pub fresh_items : (xs : List ℕ) → map item_of (map fresh xs) ≡ xs
fresh_items [] = refl
fresh_items (x ∷ xs) = ap (λ (z : List ℕ). x ∷ z) (fresh_items xs)

pub same_items : (l : List Cell) (i n : ℕ) → map item_of (set l i (record { item = (get_or l i blank).item; stage = n })) ≡ map item_of l
same_items [] i n = refl
same_items (x ∷ xs) zero n = refl
same_items (x ∷ xs) (suc i) n = ap (λ (z : List ℕ). x.item ∷ z) (same_items xs i n)
