-- A chain of acts takes, or gives back, the slots of positions side by side.
use Rattle.batch_queue.proofs.Common.{List, Option, Valid, [], ap, arith, carried_after, get_elem?, give_all, homes_after, length, length-set, none, one_turn, refl, set, set_else, set_here, slots_of, some, some-injective, some-ne-none, subst, suc, sym, take_all, zero, ℕ, ◌%◌, ◌++◌, ◌+◌, ◌<◌, ◌∙◌, ◌∷◌, ◌≡◌, ◌≢◌, ◌≤◌}

-- two positions of one turn of the ring have two places
pub apart : (room p i : ℕ) → suc i < room → (suc p + i) % room ≢ p % room
apart room p i h e = let one : p ≡ suc p + i = one_turn p (suc p + i) room (omega arith) (omega arith) (sym e) in omega arith

shift : (p i : ℕ) → p + suc i ≡ suc p + i
shift p i = omega arith

module _ {S : Type 0} where
  pub take_carries : (room p : ℕ) (xs : List S) (c : List (ℕ × S)) → carried_after c (take_all (slots_of room p xs)) ≡ slots_of room p xs ++ c
  take_carries room p [] c = refl
  take_carries room p (x ∷ xs) c = ap (λ (z : List (ℕ × S)). (p % room, x) ∷ z) (take_carries room (suc p) xs c)

  pub taken_else : (room p : ℕ) (xs : List S) (hs : List (Option S)) (c : List (ℕ × S)) (k : ℕ) → ((i : ℕ) → i < length xs → (p + i) % room ≢ k) → get_elem? (homes_after hs c (take_all (slots_of room p xs))) k ≡ get_elem? hs k
  taken_else room p [] hs c k h = refl
  taken_else room p (x ∷ xs) hs c k h =
      set_else (homes_after hs c (take_all (slots_of room (suc p) xs))) (p % room) k none (λ e. h 0 (omega arith) (ap (λ (z : ℕ). z % room) (let n : p + 0 ≡ p = omega arith in n) ∙ sym e))
      ∙ taken_else room (suc p) xs hs c k (λ i b e. h (suc i) (omega arith) (ap (λ (z : ℕ). z % room) (shift p i) ∙ e))

  pub can_take : (room p : ℕ) (xs : List S) (hs : List (Option S)) (c : List (ℕ × S)) → length xs ≤ room → ((i : ℕ) (y : S) → get_elem? xs i ≡ some y → get_elem? hs ((p + i) % room) ≡ some (some y)) → Valid hs c (take_all (slots_of room p xs))
  can_take room p [] hs c fits h = tt
  can_take room p (x ∷ xs) hs c fits h = (
    can_take room (suc p) xs hs c (omega arith) (λ i y e. subst (λ (z : ℕ). get_elem? hs (z % room) ≡ some (some y)) (shift p i) (h (suc i) y e)),
    taken_else room (suc p) xs hs c (p % room) (λ i b. apart room p i (omega arith)) ∙ subst (λ (z : ℕ). get_elem? hs (z % room) ≡ some (some x)) (let n : p + 0 ≡ p = omega arith in n) (h 0 x refl),
  )

  pub give_carries : (room p : ℕ) (xs : List S) → carried_after (slots_of room p xs) (give_all (slots_of room p xs)) ≡ []
  give_carries room p [] = refl
  give_carries room p (x ∷ xs) = give_carries room (suc p) xs

  pub can_give : (xs : List (ℕ × S)) (hs : List (Option S)) (c : List (ℕ × S)) → Valid hs c (give_all xs)
  can_give [] hs c = tt
  can_give (x ∷ xs) hs c = (tt, can_give xs _ _)

  pub given_else : (room p : ℕ) (xs : List S) (hs : List (Option S)) (k : ℕ) → ((i : ℕ) → i < length xs → (p + i) % room ≢ k) → get_elem? (homes_after hs (slots_of room p xs) (give_all (slots_of room p xs))) k ≡ get_elem? hs k
  given_else room p [] hs k h = refl
  given_else room p (x ∷ xs) hs k h =
      given_else room (suc p) xs (set hs (p % room) (some x)) k (λ i b e. h (suc i) (omega arith) (ap (λ (z : ℕ). z % room) (shift p i) ∙ e))
      ∙ set_else hs (p % room) k (some x) (λ e. h 0 (omega arith) (ap (λ (z : ℕ). z % room) (let n : p + 0 ≡ p = omega arith in n) ∙ sym e))

  pub given_at : (room p : ℕ) (xs : List S) (hs : List (Option S)) (i : ℕ) (y : S) → length xs ≤ room → ((k : ℕ) → k % room < length hs) → get_elem? xs i ≡ some y → get_elem? (homes_after hs (slots_of room p xs) (give_all (slots_of room p xs))) ((p + i) % room) ≡ some (some y)
  given_at room p [] hs i y fits wide e = absurd (some-ne-none y (sym e))
  given_at room p (x ∷ xs) hs zero y fits wide e = subst (λ (z : ℕ). get_elem? (homes_after (set hs (p % room) (some x)) (slots_of room (suc p) xs) (give_all (slots_of room (suc p) xs))) (z % room) ≡ some (some y)) (let n : p ≡ p + 0 = omega arith in n)
      (given_else room (suc p) xs (set hs (p % room) (some x)) (p % room) (λ j b. apart room p j (omega arith)) ∙ (set_here hs (p % room) (some x) (wide p) ∙ ap (λ (z : S). some (some z)) (some-injective x y e)))
  given_at room p (x ∷ xs) hs (suc i) y fits wide e = subst (λ (z : ℕ). get_elem? (homes_after (set hs (p % room) (some x)) (slots_of room (suc p) xs) (give_all (slots_of room (suc p) xs))) (z % room) ≡ some (some y)) (sym (shift p i))
      (given_at room (suc p) xs (set hs (p % room) (some x)) i y (omega arith) (λ k. subst (λ (z : ℕ). k % room < z) (sym (length-set hs (p % room) (some x))) (wide k)) e)

  values_more : (room p : ℕ) (hs : List (Option S)) (x : S) (xs : List S) → get_elem? hs ((p + 0) % room) ≡ some (some x) → ((i : ℕ) (y : S) → get_elem? xs i ≡ some y → get_elem? hs ((suc p + i) % room) ≡ some (some y)) → (i : ℕ) (y : S) → get_elem? (x ∷ xs) i ≡ some y → get_elem? hs ((p + i) % room) ≡ some (some y)
  values_more room p hs x xs first more zero y e = first ∙ ap (λ (z : S). some (some z)) (some-injective x y e)
  values_more room p hs x xs first more (suc i) y e = subst (λ (z : ℕ). get_elem? hs (z % room) ≡ some (some y)) (sym (shift p i)) (more i y e)

  -- if each of n slots is at home, their values exist
  pub values_at : (room n p : ℕ) (hs : List (Option S)) → ((i : ℕ) → i < n → (y : S) × (get_elem? hs ((p + i) % room) ≡ some (some y))) → (xs : List S) × (length xs ≡ n) × ((i : ℕ) (y : S) → get_elem? xs i ≡ some y → get_elem? hs ((p + i) % room) ≡ some (some y))
  values_at room zero p hs h = ([], refl, λ i y e. absurd (some-ne-none y (sym e)))
  values_at room (suc n) p hs h =
      let first = h 0 (omega arith) in
      let more = values_at room n (suc p) hs (λ i b. let x = h (suc i) (omega arith) in (x.0, subst (λ (z : ℕ). get_elem? hs (z % room) ≡ some (some x.0)) (shift p i) x.1)) in (
        first.0 ∷ more.0,
        ap suc more.1,
        values_more room p hs first.0 more.0 first.1 more.2,
      )
