-- The lines of a switch, when the held line is put.
use Rattle.quajects.proofs.Common.{◌≡◌, ◌≢◌, ℕ, zero, suc, ◌+◌, ◌<◌, ◌≤◌, ◌⊎◌, inl, inr, ⊎_elim, ◌&&◌, not, Bool, true, false, List, [], ◌∷◌, ◌++◌, cond, map, length, slice_set, slice_index_or, refl, sym, ap, ◌∙◌, subst, arith, eq-eqb, Option, Some, None, slice_index, slice_get, filter, All, AllZip, append-nil, dec_le, ne_eqb, view_of, lines_put, ClaimQueue, QueueEnd, IsEndAt, post_of, TriedPut, Way, held_line, key_of, way_post, begins, begins_none, Routed, Given, IsGiven, IsGivenFit, given_key, given_index, given_end, index_of, end_of, RoutesEach, RoutesRest, KeysDiffer, WaysFit, TriedWay}
use Rattle.std.proofs.lemmas.Option.{none-some, same_Some}
use Rattle.std.proofs.Math.Bool.{and-false}
use Rattle.quajects.specs.declared.ports.Outlet.{Outlet}

set_get : {A : Type 0} (l : List A) (i j : ℕ) (x y : A) → slice_get (slice_set l i x) j ≡ Some y → ((j ≡ i) × (x ≡ y)) ⊎ ((j ≢ i) × (slice_get l j ≡ Some y))
set_get [] i j x y e = cc
set_get (a ∷ l) zero zero x y e = inl (refl, cc)
set_get (a ∷ l) zero (suc j) x y e = inr ((λ h. omega arith), e)
set_get (a ∷ l) (suc i) zero x y e = inr ((λ h. omega arith), e)
set_get (a ∷ l) (suc i) (suc j) x y e = ⊎_elim (λ t. inl (ap suc t.0, t.1)) (λ t. let n = t.0 in inr ((λ h. n (omega arith)), t.1)) (set_get l i j x y e)

-- the way with another outlet
abbrev pub changed : Way → Outlet 64 → Way
changed way outlet = record { key = way.key; outlet = outlet }

abbrev pub after : List (Option Way) → ℕ → Way → Outlet 64 → List (Option Way)
after ways i way outlet = slice_set ways i (Some (changed way outlet))

module _ {A B : Type 0} (f : A → B) where
  map_set : (l : List A) (i : ℕ) (x y : A) → slice_get l i ≡ Some y → f x ≡ f y → map f (slice_set l i x) ≡ map f l
  map_set [] i x y at e = refl
  map_set (a ∷ l) zero x y at e = let same : y ≡ a = cc in ap (λ (z : B). z ∷ map f l) (e ∙ ap f same)
  map_set (a ∷ l) (suc i) x y at e = ap (λ (z : List B). f a ∷ z) (map_set l i x y at e)

  get_map : (l : List A) (i : ℕ) (x : A) → slice_get l i ≡ Some x → slice_get (map f l) i ≡ Some (f x)
  get_map [] i x at = cc
  get_map (a ∷ l) zero x at = let same : a ≡ x = cc in ap (λ (z : A). Some (f z)) same
  get_map (a ∷ l) (suc i) x at = get_map l i x at

pub keys_same : (ways : List (Option Way)) (i : ℕ) (way : Way) (outlet : Outlet 64) → slice_get ways i ≡ Some (Some way) → map key_of (after ways i way outlet) ≡ map key_of ways
keys_same ways i way outlet at = map_set key_of ways i (Some (changed way outlet)) (Some way) at refl

pub posts_same : (ways : List (Option Way)) (i : ℕ) (way : Way) (outlet : Outlet 64) → slice_get ways i ≡ Some (Some way) → post_of outlet.index outlet.end ≡ post_of way.outlet.index way.outlet.end → map way_post (after ways i way outlet) ≡ map way_post ways
posts_same ways i way outlet at e = map_set way_post ways i (Some (changed way outlet)) (Some way) at (ap Some e)

pub apart_after : (ways : List (Option Way)) (i : ℕ) (way : Way) (outlet : Outlet 64) → slice_get ways i ≡ Some (Some way) → KeysDiffer (map key_of ways) → KeysDiffer (map key_of (after ways i way outlet))
apart_after ways i way outlet at h = subst KeysDiffer (sym (keys_same ways i way outlet at)) h

none_false : (keys : List (Option ℕ)) (i key : ℕ) → slice_get keys i ≡ Some (Some key) → (line : List ℕ) → begins key line ≡ true → begins_none keys line ≡ false
none_false [] i key at line h = cc
none_false (None ∷ keys) zero key at line h = cc
none_false (Some u ∷ keys) zero key at line h = let same : u ≡ key = cc in ap (λ (z : ℕ). not (begins z line) && begins_none keys line) same ∙ ap (λ (z : Bool). not z && begins_none keys line) h
none_false (None ∷ keys) (suc i) key at line h = none_false keys i key at line h
none_false (Some u ∷ keys) (suc i) key at line h = ap (λ (z : Bool). not (begins u line) && z) (none_false keys i key at line h) ∙ and-false (not (begins u line))

passed_over : (p : List ℕ → Bool) (held : List ℕ) → p held ≡ false → filter p (held_line held) ≡ []
passed_over p [] h = refl
passed_over p (x ∷ xs) h = ap (λ (z : Bool). cond z ((x ∷ xs) ∷ []) []) h

chosen_alone : (p : List ℕ → Bool) (held : List ℕ) → held ≢ [] → p held ≡ true → filter p (held_line held) ≡ held ∷ []
chosen_alone p [] n h = absurd (n refl)
chosen_alone p (x ∷ xs) n h = ap (λ (z : Bool). cond z ((x ∷ xs) ∷ []) []) h

-- a line that isn't chosen is no longer held
pub gone : (p : List ℕ → Bool) (taken : List (List ℕ)) (held held' : List ℕ) (puts : List (List ℕ)) → p held ≡ false → held' ≡ [] → Routed p taken held puts → Routed p taken held' puts
gone p taken held held' puts h e r = r ∙ ap (λ (z : List (List ℕ)). puts ++ z) (passed_over p held h) ∙ ap (λ (z : List ℕ). puts ++ filter p (held_line z)) (sym e)

-- a line that is chosen was put
pub went : (p : List ℕ → Bool) (taken : List (List ℕ)) (held held' : List ℕ) (puts puts' : List (List ℕ)) → held ≢ [] → p held ≡ true → held' ≡ [] → puts' ≡ puts ++ held ∷ [] → Routed p taken held puts → Routed p taken held' puts'
went p taken held held' puts puts' n h e e' r = r ∙ ap (λ (z : List (List ℕ)). puts ++ z) (chosen_alone p held n h) ∙ sym e' ∙ sym (append-nil puts')
    ∙ ap (λ (z : List ℕ). puts' ++ filter p (held_line z)) (sym e)

pub each_refused : (ways : List (Option Way)) (i : ℕ) (way : Way) (outlet : Outlet 64) (taken : List (List ℕ)) (held : List ℕ) → slice_get ways i ≡ Some (Some way)
    → lines_put (view_of outlet.end) ≡ lines_put (view_of way.outlet.end) → RoutesEach ways taken held → RoutesEach (after ways i way outlet) taken held
each_refused ways i way outlet taken held at same h j v e = ⊎_elim
    (λ t. let is : changed way outlet ≡ v = cc in subst (λ (z : Way). Routed (begins z.key) taken held (lines_put (view_of z.outlet.end))) is
    (subst (Routed (begins way.key) taken held) (sym same) (h i way at)))
    (λ t. h j v t.1) (set_get ways i j (Some (changed way outlet)) (Some v) e)

pub each_put : (ways : List (Option Way)) (i : ℕ) (way : Way) (outlet : Outlet 64) (taken : List (List ℕ)) (held held' : List ℕ) → slice_get ways i ≡ Some (Some way)
    → KeysDiffer (map key_of ways) → held ≢ [] → slice_index held 0 ≡ way.key → held' ≡ []
    → lines_put (view_of outlet.end) ≡ lines_put (view_of way.outlet.end) ++ held ∷ [] → RoutesEach ways taken held → RoutesEach (after ways i way outlet) taken held'
each_put ways i way outlet taken held held' at apart some first none more h j v e = ⊎_elim
    (λ t. let is : changed way outlet ≡ v = cc in subst (λ (z : Way). Routed (begins z.key) taken held' (lines_put (view_of z.outlet.end))) is
    (went (begins way.key) taken held held' _ _ some (eq-eqb (slice_index held 0) way.key first) none more (h i way at)))
    (λ t. let n = t.0 in gone (begins v.key) taken held held' _ (ne_eqb (slice_index held 0) v.key (λ q. n (sym (apart i j way.key (get_map key_of ways i (Some way) at) (get_map key_of ways j (Some v) t.1 ∙ ap (λ (z : ℕ). Some (Some z)) (sym (sym first ∙ q))))))) none (h j v t.1))
    (set_get ways i j (Some (changed way outlet)) (Some v) e)

pub rest_same : (ways : List (Option Way)) (i : ℕ) (way : Way) (outlet : Outlet 64) (taken : List (List ℕ)) (held : List ℕ) (puts : List (List ℕ)) → slice_get ways i ≡ Some (Some way)
    → RoutesRest ways taken held puts → RoutesRest (after ways i way outlet) taken held puts
rest_same ways i way outlet taken held puts at r = subst (λ (z : List (Option ℕ)). Routed (begins_none z) taken held puts) (sym (keys_same ways i way outlet at)) r

pub rest_gone : (ways : List (Option Way)) (i : ℕ) (way : Way) (outlet : Outlet 64) (taken : List (List ℕ)) (held held' : List ℕ) (puts : List (List ℕ)) → slice_get ways i ≡ Some (Some way)
    → slice_index held 0 ≡ way.key → held' ≡ [] → RoutesRest ways taken held puts → RoutesRest (after ways i way outlet) taken held' puts
rest_gone ways i way outlet taken held held' puts at first none r = rest_same ways i way outlet taken held' puts at
    (gone (begins_none (map key_of ways)) taken held held' puts (none_false (map key_of ways) i way.key (get_map key_of ways i (Some way) at) held (eq-eqb (slice_index held 0) way.key first)) none r)

pub at_get : {A : Type 0} (l : List A) (i : ℕ) (x d : A) → slice_get l i ≡ Some x → slice_index_or l i d ≡ x
at_get [] i x d e = cc
at_get (a ∷ l) zero x d e = cc
at_get (a ∷ l) (suc i) x d e = at_get l i x d e

-- the way that was read is the one that is known to be there
pub way_read : (ways : List (Option Way)) (i : ℕ) (known way : Way) (d : Option Way) → slice_get ways i ≡ Some (Some known) → slice_index_or ways i d ≡ Some way → known ≡ way
way_read ways i known way d at is = let e : Some known ≡ Some way = sym (at_get ways i (Some known) d at) ∙ is in cc

key_if : (ways : List (Option Way)) (i item : ℕ) → ((j : ℕ) (way : Way) → j < i → slice_get ways j ≡ Some (Some way) → item ≢ way.key)
    → ((way : Way) → slice_get ways i ≡ Some (Some way) → item ≢ way.key) → (j : ℕ) (way : Way) → j < i + 1 → slice_get ways j ≡ Some (Some way) → Dec (suc j ≤ i) → item ≢ way.key
key_if ways i item below here j way l e (yes d) = below j way (omega arith) e
key_if ways i item below here j way l e (no d) = let same : j ≡ i = omega arith in here way (ap (λ (z : ℕ). slice_get ways z) (sym same) ∙ e)

-- one more way is not that of the item
pub key_more : (ways : List (Option Way)) (i item : ℕ) → ((j : ℕ) (way : Way) → j < i → slice_get ways j ≡ Some (Some way) → item ≢ way.key)
    → ((way : Way) → slice_get ways i ≡ Some (Some way) → item ≢ way.key) → (j : ℕ) (way : Way) → j < i + 1 → slice_get ways j ≡ Some (Some way) → item ≢ way.key
key_more ways i item below here j way l e = key_if ways i item below here j way l e (dec_le (suc j) i)

pub not_here : (ways : List (Option Way)) (i item : ℕ) (read : Way) (d : Option Way) → slice_index_or ways i d ≡ Some read → (read.key ≡ item → ⊥) → (way : Way) → slice_get ways i ≡ Some (Some way) → item ≢ way.key
not_here ways i item read d is n way e q = let same : way ≡ read = way_read ways i way read d e is in n (ap (λ (z : Way). z.key) (sym same) ∙ sym q)

pub got_below : {A : Type 0} (l : List A) (i : ℕ) (x : A) → slice_get l i ≡ Some x → i < length l
got_below [] i x e = cc
got_below (a ∷ l) zero x e = omega arith
got_below (a ∷ l) (suc i) x e = let h = got_below l i x e in omega arith

pub not_default : (ways : List (Option Way)) (i item : ℕ) (d : Option Way) → ((x : Way) → slice_index_or ways i d ≡ Some x → ⊥) → (way : Way) → slice_get ways i ≡ Some (Some way) → item ≢ way.key
not_default ways i item d n way e q = n way (at_get ways i (Some way) d e)

not_key : (key : ℕ) (line : List ℕ) (b : Bool) → slice_index line 0 ≢ key → b ≡ true → (not (begins key line) && b) ≡ true
not_key key line b n h = ap (λ (z : Bool). not z && b) (ne_eqb (slice_index line 0) key n) ∙ h

none_true : (keys : List (Option ℕ)) (line : List ℕ) → ((i key : ℕ) → slice_get keys i ≡ Some (Some key) → slice_index line 0 ≢ key) → begins_none keys line ≡ true
none_true [] line h = refl
none_true (None ∷ keys) line h = none_true keys line (λ i key e. h (suc i) key e)
none_true (Some u ∷ keys) line h = not_key u line (begins_none keys line) (h 0 u refl) (none_true keys line (λ i key e. h (suc i) key e))

-- where a mapped list has a value, the list has what is mapped to it
pub mapped_at : {A B : Type 0} (f : A → B) (l : List A) (i : ℕ) (b : B) → slice_get (map f l) i ≡ Some b → (a : A) × (slice_get l i ≡ Some a) × (f a ≡ b)
mapped_at f [] i b e = absurd (none-some b e)
mapped_at f (a ∷ l) zero b e = (a, refl, same_Some (f a) b e)
mapped_at f (a ∷ l) (suc i) b e = mapped_at f l i b e

way_back : (w : Option Way) (key : ℕ) → key_of w ≡ Some key → (way : Way) × (w ≡ Some way) × (way.key ≡ key)
way_back None key e = absurd (none-some key e)
way_back (Some u) key e = (u, refl, same_Some u.key key e)

key_back : (ways : List (Option Way)) (i key : ℕ) → slice_get (map key_of ways) i ≡ Some (Some key) → (way : Way) × (slice_get ways i ≡ Some (Some way)) × (way.key ≡ key)
key_back ways i key e = let g = mapped_at key_of ways i (Some key) e in let w = way_back g.0 key g.2 in (w.0, g.1 ∙ ap Some w.1, w.2)

pub each_other : (ways : List (Option Way)) (taken : List (List ℕ)) (held held' : List ℕ) → ((i : ℕ) (way : Way) → slice_get ways i ≡ Some (Some way) → slice_index held 0 ≢ way.key) → held' ≡ []
    → RoutesEach ways taken held → RoutesEach ways taken held'
each_other ways taken held held' n none h i way e = gone (begins way.key) taken held held' _ (ne_eqb (slice_index held 0) way.key (n i way e)) none (h i way e)

pub rest_put : (ways : List (Option Way)) (taken : List (List ℕ)) (held held' : List ℕ) (puts puts' : List (List ℕ)) → ((i : ℕ) (way : Way) → slice_get ways i ≡ Some (Some way) → slice_index held 0 ≢ way.key)
    → held ≢ [] → held' ≡ [] → puts' ≡ puts ++ held ∷ [] → RoutesRest ways taken held puts → RoutesRest ways taken held' puts'
rest_put ways taken held held' puts puts' n some none e r = went (begins_none (map key_of ways)) taken held held' puts puts' some
    (none_true (map key_of ways) held (λ i key at. let b = key_back ways i key at in λ q. n i b.0 b.1 (q ∙ sym b.2))) none e r

pub fit_after : (queues : List (ClaimQueue 64)) (ways : List (Option Way)) (i : ℕ) (way : Way) (outlet : Outlet 64) → WaysFit queues ways → IsEndAt queues outlet.index outlet.end → WaysFit queues (after ways i way outlet)
fit_after queues ways i way outlet fit at j v e = ⊎_elim
    (λ t. let is : changed way outlet ≡ v = cc in subst (λ (z : Way). IsEndAt queues z.outlet.index z.outlet.end) is at)
    (λ t. fit j v t.1) (set_get ways i j (Some (changed way outlet)) (Some v) e)

tried_way : (ways : List (Option Way)) (i : ℕ) (known way : Way) (outlet : Outlet 64) (d : Option Way) (line : List ℕ) (put : Bool) → slice_get ways i ≡ Some (Some known) → slice_index line 0 ≡ known.key → slice_index_or ways i d ≡ Some way
    → post_of outlet.index outlet.end ≡ post_of way.outlet.index way.outlet.end → TriedPut 64 (view_of way.outlet.end) put line (view_of outlet.end) → TriedWay ways line put (after ways i way outlet)
tried_way ways i known way outlet d line put at key is same tried = let e : known ≡ way = way_read ways i known way d at is in record {
  number = i;
  way = way;
  was = at ∙ ap (λ (z : Way). Some (Some z)) e;
  key = key ∙ ap (λ (z : Way). z.key) e;
  outlet = outlet;
  now = refl;
  same = same;
  tried = tried;
}

pub fits_way : (queues : List (ClaimQueue 64)) (ways : List (Option Way)) (i : ℕ) (known way : Way) (d : Option Way) → WaysFit queues ways → slice_get ways i ≡ Some (Some known) → slice_index_or ways i d ≡ Some way → IsEndAt queues way.outlet.index way.outlet.end
fits_way queues ways i known way d fit at is = fit i way (at ∙ ap (λ (z : Way). Some (Some z)) (way_read ways i known way d at is))

pub tried_as : (ways : List (Option Way)) (i : ℕ) (known way : Way) (outlet : Outlet 64) (d : Option Way) (line line' : List ℕ) (put put' : Bool) → slice_get ways i ≡ Some (Some known) → slice_index line 0 ≡ known.key → slice_index_or ways i d ≡ Some way
    → line' ≡ line → put' ≡ put → post_of outlet.index outlet.end ≡ post_of way.outlet.index way.outlet.end → TriedPut 64 (view_of way.outlet.end) put' line' (view_of outlet.end) → TriedWay ways line put (after ways i way outlet)
tried_as ways i known way outlet d line line' put put' at key is el ep same tried = tried_way ways i known way outlet d line put at key is same
    (subst (λ (z : List ℕ). TriedPut 64 (view_of way.outlet.end) put z (view_of outlet.end)) el
    (subst (λ (z : Bool). TriedPut 64 (view_of way.outlet.end) z line' (view_of outlet.end)) ep tried))

-- nothing was taken, so nothing goes anywhere
none_routed : (p : List ℕ → Bool) (taken puts : List (List ℕ)) (held : List ℕ) → taken ≡ [] → puts ≡ [] → held ≡ [] → Routed p taken held puts
none_routed p taken puts held et ep eh = ap (filter p) et ∙ ap (λ (z : List ℕ). filter p (held_line z)) (sym eh) ∙ ap (λ (z : List (List ℕ)). z ++ filter p (held_line held)) (sym ep)

module _ {A B : Type 0} (R : A → B → Type 0) where
  -- the relation holds of each pair
  zip_each : (xs : List A) (ys : List B) → AllZip R xs ys → (i : ℕ) (y : B) → slice_get ys i ≡ Some y → (x : A) × R x y
  zip_each [] [] h i y e = cc
  zip_each [] (b ∷ ys) h i y e = absurd h
  zip_each (a ∷ xs) [] h i y e = cc
  zip_each (a ∷ xs) (b ∷ ys) h zero y e = let same : b ≡ y = cc in (a, subst (R a) same h.0)
  zip_each (a ∷ xs) (b ∷ ys) h (suc i) y e = zip_each xs ys h.1 i y e

  -- the relation holds of each pair, and the property of its first
  zip_holds : (P : A → Type 0) (xs : List A) (ys : List B) → AllZip R xs ys → All P xs → (i : ℕ) (y : B) → slice_get ys i ≡ Some y → (x : A) × R x y × P x
  zip_holds P [] [] h f i y e = cc
  zip_holds P [] (b ∷ ys) h f i y e = absurd h
  zip_holds P (a ∷ xs) [] h f i y e = cc
  zip_holds P (a ∷ xs) (b ∷ ys) h f zero y e = let same : b ≡ y = cc in (a, subst (R a) same h.0, f 0 a (omega arith))
  zip_holds P (a ∷ xs) (b ∷ ys) h f (suc i) y e = zip_holds P xs ys h.1 (λ k d l. f (suc k) d (omega arith)) i y e

  pub zip_length : (xs : List A) (ys : List B) → AllZip R xs ys → length ys ≡ length xs
  zip_length [] [] h = refl
  zip_length [] (b ∷ ys) h = absurd h
  zip_length (a ∷ xs) [] h = absurd h
  zip_length (a ∷ xs) (b ∷ ys) h = ap suc (zip_length xs ys h.1)

  zip_map : {C : Type 0} (f : B → C) (g : A → C) → ((x : A) (y : B) → R x y → f y ≡ g x) → (xs : List A) (ys : List B) → AllZip R xs ys → map f ys ≡ map g xs
  zip_map f g k [] [] h = refl
  zip_map f g k [] (b ∷ ys) h = absurd h
  zip_map f g k (a ∷ xs) [] h = absurd h
  zip_map f g k (a ∷ xs) (b ∷ ys) h = (λ i. k a b h.0 i ∷ zip_map f g k xs ys h.1 i)

pub given_keys : (given : List Given) (ways : List (Option Way)) → AllZip IsGiven given ways → map key_of ways ≡ map given_key given
given_keys given ways h = zip_map IsGiven key_of given_key (λ x y r. r.key) given ways h

pub given_indexes : (given : List Given) (ways : List (Option Way)) → AllZip IsGiven given ways → map index_of ways ≡ map given_index given
given_indexes given ways h = zip_map IsGiven index_of given_index (λ x y r. r.index) given ways h

pub given_ends : (given : List Given) (ways : List (Option Way)) → AllZip IsGiven given ways → map end_of ways ≡ map given_end given
given_ends given ways h = zip_map IsGiven end_of given_end (λ x y r. r.end) given ways h

pub each_new : (given : List Given) (ways : List (Option Way)) (taken : List (List ℕ)) (held : List ℕ) → AllZip IsGiven given ways → taken ≡ [] → held ≡ [] → RoutesEach ways taken held
each_new given ways taken held h et eh i way e =
    none_routed (begins way.key) taken (lines_put (view_of way.outlet.end)) held et (zip_each IsGiven given ways h i (Some way) e).1.none eh

pub rest_new : (ways : List (Option Way)) (taken puts : List (List ℕ)) (held : List ℕ) → taken ≡ [] → puts ≡ [] → held ≡ [] → RoutesRest ways taken held puts
rest_new ways taken puts held et ep eh = none_routed (begins_none (map key_of ways)) taken puts held et ep eh

-- a port that was made of an index and an end
pub end_at : {n : ℕ} (queues : List (ClaimQueue n)) (index index' : ℕ) (end end' : QueueEnd n) → index' ≡ index → end' ≡ end → IsEndAt queues index end → IsEndAt queues index' end'
end_at {n} queues index index' end end' ei ee at = subst (λ (z : ℕ). IsEndAt queues z end') (sym ei) (subst (λ (z : QueueEnd n). IsEndAt queues index z) (sym ee) at)

way_fits : (queues : List (ClaimQueue 64)) (given : Given) (way : Way) → IsGiven given (Some way) → IsGivenFit queues given → IsEndAt queues way.outlet.index way.outlet.end
way_fits queues None way h f = let no_index = h.index in cc
way_fits queues (Some given) way h f = let ei = h.index in let ee = h.end in end_at queues given.1 way.outlet.index given.2 way.outlet.end (cc) (cc) f

pub given_fit : (queues : List (ClaimQueue 64)) (given : List Given) (ways : List (Option Way)) → AllZip IsGiven given ways → All (IsGivenFit queues) given → WaysFit queues ways
given_fit queues given ways h f i way e = let z = zip_holds IsGiven (IsGivenFit queues) given ways h f i (Some way) e in way_fits queues z.0 way z.1 z.2
