-- The laws of a log and its lists: an entry comes, an entry changes, an owner comes, and an owner takes another's entries.
use Rattle.table_theory.proofs.Common.{◌≡◌, ℕ, suc, zero, ◌+◌, ◌<◌, ◌≢◌, ◌⊎◌, inl, inr, ⊎_elim, Bool, eq-eqb, ne_eqb, List, [], ◌∷◌, ◌++◌, map, length, set, sym, refl, ap, ◌∙◌, subst, arith, some, some-injective, some-ne-none, dite, ℕ_discrete, get_elem?, if◌then◌else◌, at_set, set_here, set_else, at_longer, at_last, at_map, Owned, ListedOnce, moved, sole}

module _ {A : Type 0} where
  -- at_snoc, with the place
  pub at_push : (l : List A) (a b : A) (j : ℕ) → get_elem? (l ++ a ∷ []) j ≡ some b → (get_elem? l j ≡ some b) ⊎ ((j ≡ length l) × (a ≡ b))
  at_push [] a b zero e = inr (refl, some-injective a b e)
  at_push [] a b (suc j) e = absurd (some-ne-none b (sym e))
  at_push (x ∷ xs) a b zero e = inl e
  at_push (x ∷ xs) a b (suc j) e = ⊎_elim (λ h. inl h) (λ t. inr (ap suc t.0, t.1)) (at_push xs a b j e)

  pub at_below : (l : List A) (i : ℕ) (a : A) → get_elem? l i ≡ some a → i < length l
  at_below [] i a e = absurd (some-ne-none a (sym e))
  at_below (x ∷ xs) zero a e = omega arith
  at_below (x ∷ xs) (suc i) a e = let h = at_below xs i a e in omega arith

  pub one_at : (l : List A) (i : ℕ) (a b : A) → get_elem? l i ≡ some a → get_elem? l i ≡ some b → a ≡ b
  one_at l i a b e f = some-injective a b (sym e ∙ f)

  pub at_joined : (l r : List A) (i : ℕ) (a : A) → get_elem? (l ++ r) i ≡ some a → (get_elem? l i ≡ some a) ⊎ ((j : ℕ) × (i ≡ length l + j) × (get_elem? r j ≡ some a))
  at_joined [] r i a e = inr (i, omega arith, e)
  at_joined (x ∷ xs) r zero a e = inl e
  at_joined (x ∷ xs) r (suc i) a e = ⊎_elim (λ h. inl h) (λ t. inr (t.0, (let h = t.1 in omega arith), t.2)) (at_joined xs r i a e)

  pub at_after : (l r : List A) (j : ℕ) (a : A) → get_elem? r j ≡ some a → get_elem? (l ++ r) (length l + j) ≡ some a
  at_after [] r j a e = let n : j ≡ 0 + j = omega arith in subst (λ (z : ℕ). get_elem? r z ≡ some a) n e
  at_after (x ∷ xs) r j a e = let n : suc (length xs + j) ≡ suc (length xs) + j = omega arith in subst (λ (z : ℕ). get_elem? (x ∷ (xs ++ r)) z ≡ some a) n (at_after xs r j a e)

  pub at_map_back : {B : Type 0} (f : A → B) (l : List A) (i : ℕ) (b : B) → get_elem? (map f l) i ≡ some b → (a : A) × (get_elem? l i ≡ some a) × (f a ≡ b)
  at_map_back f [] i b e = absurd (some-ne-none b (sym e))
  at_map_back f (x ∷ xs) zero b e = (x, refl, some-injective (f x) b e)
  at_map_back f (x ∷ xs) (suc i) b e = at_map_back f xs i b e

-- what holds of each entry of a list
module _ {A : Type 0} (P : A → Type 0) where
  pub all_set : (l : List A) (j : ℕ) (b : A) → ((i : ℕ) (a : A) → get_elem? l i ≡ some a → P a) → P b → (i : ℕ) (a : A) → get_elem? (set l j b) i ≡ some a → P a
  all_set l j b old new i a at = ⊎_elim (λ t. subst P t.1 new) (λ t. old i a t.1) (at_set l j i b a at)

  pub all_push : (l : List A) (b : A) → ((i : ℕ) (a : A) → get_elem? l i ≡ some a → P a) → P b → (i : ℕ) (a : A) → get_elem? (l ++ b ∷ []) i ≡ some a → P a
  all_push l b old new i a at = ⊎_elim (λ t. old i a t) (λ t. subst P t.1 new) (at_push l b a i at)

  pub all_one : (b : A) → P b → (i : ℕ) (a : A) → get_elem? (b ∷ []) i ≡ some a → P a
  all_one b new zero a at = subst P (some-injective b a at) new
  all_one b new (suc i) a at = absurd (some-ne-none a (sym at))

module _ {E : Type 0} where
  pub moved_hit : (c d n : ℕ) (o : Owned E) → o.0 ≡ d → ◌≡◌ {A = Owned E} (moved c d n o) (c, n + o.1, o.2)
  moved_hit c d n o e = let to : Owned E = (c, n + o.1, o.2) in ap (λ (b : Bool). if b then to else o) (eq-eqb o.0 d e)

  pub moved_miss : (c d n : ℕ) (o : Owned E) → o.0 ≢ d → ◌≡◌ {A = Owned E} (moved c d n o) o
  moved_miss c d n o e = let to : Owned E = (c, n + o.1, o.2) in ap (λ (b : Bool). if b then to else o) (ne_eqb o.0 d e)

  -- the entry is in the list of its owner
  abbrev pub Stands : List (List E) → Owned E → Type 0
  Stands lists o = (l : List E) × (get_elem? lists o.0 ≡ some l) × (get_elem? l o.1 ≡ some o.2)

  -- which is this one
  its : (lists : List (List E)) (c : ℕ) (l : List E) → get_elem? lists c ≡ some l → (o : Owned E) → Stands lists o → o.0 ≡ c → get_elem? l o.1 ≡ some o.2
  its lists c l at o s own = subst (λ (z : List E). get_elem? z o.1 ≡ some o.2) (one_at lists c s.0 l (subst (λ (z : ℕ). get_elem? lists z ≡ some s.0) own s.1) at) s.2

  only_at : (l k : List E) (d : ℕ) → get_elem? (l ∷ []) d ≡ some k → (d ≡ 0) × (k ≡ l)
  only_at l k zero at = (refl, sym (some-injective l k at))
  only_at l k (suc d) at = absurd (some-ne-none k (sym at))

  pub file_first : ListedOnce {E = E} [] ([] ∷ [])
  file_first = record {
    listed = λ c l m e has is. absurd (some-ne-none e (sym (subst (λ (z : List E). get_elem? z m ≡ some e) (only_at [] l c has).1 is)));
    stands = λ k o has. absurd (some-ne-none o (sym has));
    once = λ k j o p has is own num. absurd (some-ne-none o (sym has));
  }

  pub file_push : (log : List (Owned E)) (lists : List (List E)) (c : ℕ) (l : List E) (e : E) → ListedOnce log lists → get_elem? lists c ≡ some l
      → ListedOnce (log ++ (c, length l, e) ∷ []) (set lists c (l ++ e ∷ []))
  file_push log lists c l e f at =
      let o : Owned E = (c, length l, e) in
      let fresh : (k : ℕ) (p : Owned E) → get_elem? log k ≡ some p → p.0 ≡ c → p.1 ≡ length l → ⊥ = λ k p has own num. (let below = at_below l p.1 p.2 (its lists c l at p (f.stands k p has) own) in omega arith) in
      record {
        listed = λ d m i x has is. ⊎_elim
            (λ t. ⊎_elim
            (λ old. let r = f.listed c l i x at old in (r.0, at_longer log (o ∷ []) r.0 (d, i, x) (r.1 ∙ (λ k. some (sym t.0 k, i, x)))))
            (λ new. (length log, at_last log o (length log) refl ∙ (λ k. some (sym t.0 k, sym new.0 k, new.1 k))))
            (at_push l e x i (subst (λ (z : List E). get_elem? z i ≡ some x) (sym t.1) is)))
            (λ t. let r = f.listed d m i x t.1 is in (r.0, at_longer log (o ∷ []) r.0 (d, i, x) r.1))
            (at_set lists c d (l ++ e ∷ []) m has);
        stands = λ k p has. ⊎_elim
            (λ old. let s = f.stands k p old in dite (ℕ_discrete p.0 c)
            (λ own. (l ++ e ∷ [], subst (λ (z : ℕ). get_elem? (set lists c (l ++ e ∷ [])) z ≡ some (l ++ e ∷ [])) (sym own) (set_here lists c (l ++ e ∷ []) (at_below lists c l at)), at_longer l (e ∷ []) p.1 p.2 (its lists c l at p s own)))
            (λ other. (s.0, set_else lists c p.0 (l ++ e ∷ []) other ∙ s.1, s.2)))
            (λ new. subst (Stands (set lists c (l ++ e ∷ []))) new.1 (l ++ e ∷ [], set_here lists c (l ++ e ∷ []) (at_below lists c l at), at_last l e (length l) refl))
            (at_push log o p k has);
        once = λ k j p r has is own num. ⊎_elim
            (λ old. ⊎_elim
            (λ old'. f.once k j p r old old' own num)
            (λ new'. absurd (fresh k p old (own ∙ ap (λ (z : Owned E). z.0) (sym new'.1)) (num ∙ ap (λ (z : Owned E). z.1) (sym new'.1))))
            (at_push log o r j is))
            (λ new. ⊎_elim
            (λ old'. absurd (fresh j r old' (sym own ∙ ap (λ (z : Owned E). z.0) (sym new.1)) (sym num ∙ ap (λ (z : Owned E). z.1) (sym new.1))))
            (λ new'. new.0 ∙ sym new'.0)
            (at_push log o r j is))
            (at_push log o p k has);
      }

  -- the entry m of c changes
  pub file_set : (log : List (Owned E)) (lists : List (List E)) (c m k : ℕ) (l : List E) (e e' : E) → ListedOnce log lists → get_elem? lists c ≡ some l → get_elem? log k ≡ some (c, m, e)
      → ListedOnce (set log k (c, m, e')) (set lists c (set l m e'))
  file_set log lists c m k l e e' f at in_log =
      let o : Owned E = (c, m, e) in let o' : Owned E = (c, m, e') in let in_list = its lists c l at o (f.stands k o in_log) refl in
      let l' : List E = set l m e' in let lists' : List (List E) = set lists c l' in let here = set_here lists c l' (at_below lists c l at) in
      record {
        listed = λ d n i x has is. ⊎_elim
            (λ t. ⊎_elim
            (λ u. (k, set_here log k o' (at_below log k o in_log) ∙ (λ z. some (sym t.0 z, sym u.0 z, u.1 z))))
            (λ u. let r = f.listed c l i x at u.1 in let apart : r.0 ≢ k = λ z. u.0 (sym (ap (λ (y : Owned E). y.1) (one_at log k o (c, i, x) in_log (subst (λ (y : ℕ). get_elem? log y ≡ some (c, i, x)) z r.1)))) in
            (r.0, set_else log k r.0 o' apart ∙ (r.1 ∙ (λ z. some (sym t.0 z, i, x)))))
            (at_set l m i e' x (subst (λ (z : List E). get_elem? z i ≡ some x) (sym t.1) is)))
            (λ t. let r = f.listed d n i x t.1 is in let apart : r.0 ≢ k = λ z. t.0 (sym (ap (λ (y : Owned E). y.0) (one_at log k o (d, i, x) in_log (subst (λ (y : ℕ). get_elem? log y ≡ some (d, i, x)) z r.1)))) in
            (r.0, set_else log k r.0 o' apart ∙ r.1))
            (at_set lists c d l' n has);
        stands = λ j p has. ⊎_elim
            (λ t. subst (Stands lists') t.1 (l', here, set_here l m e' (at_below l m e in_list)))
            (λ t. let q = f.stands j p t.1 in dite (ℕ_discrete p.0 c)
            (λ own. (l', subst (λ (z : ℕ). get_elem? lists' z ≡ some l') (sym own) here, set_else l m p.1 e' (λ z. t.0 (f.once j k p o t.1 in_log own z)) ∙ its lists c l at p q own))
            (λ other. (q.0, set_else lists c p.0 l' other ∙ q.1, q.2)))
            (at_set log k j o' p has);
        once = λ i j p r has is own num. ⊎_elim
            (λ t. ⊎_elim (λ u. t.0 ∙ sym u.0)
            (λ u. absurd (u.0 (f.once j k r o u.1 in_log (sym own ∙ ap (λ (z : Owned E). z.0) (sym t.1)) (sym num ∙ ap (λ (z : Owned E). z.1) (sym t.1)))))
            (at_set log k j o' r is))
            (λ t. ⊎_elim (λ u. absurd (t.0 (f.once i k p o t.1 in_log (own ∙ ap (λ (z : Owned E). z.0) (sym u.1)) (num ∙ ap (λ (z : Owned E). z.1) (sym u.1)))))
            (λ u. f.once i j p r t.1 u.1 own num)
            (at_set log k j o' r is))
            (at_set log k i o' p has);
      }

  -- a new owner with nothing
  pub file_new : (log : List (Owned E)) (lists : List (List E)) → ListedOnce log lists → ListedOnce log (lists ++ [] ∷ [])
  file_new log lists f = record {
    listed = λ c l m e has is. ⊎_elim (λ old. f.listed c l m e old is) (λ new. absurd (some-ne-none e (sym (subst (λ (z : List E). get_elem? z m ≡ some e) (sym new.1) is)))) (at_push lists [] l c has);
    stands = λ k o has. let s = f.stands k o has in (s.0, at_longer lists ([] ∷ []) o.0 s.0 s.1, s.2);
    once = f.once;
  }

-- A log of what becomes of each entry, if the lists then have what becomes of theirs, and nothing else, and no two at
-- one place
pub file_by : {E F : Type 0} (g : Owned E → Owned F) (log : List (Owned E)) (lists : List (List E)) (new : List (List F)) → ListedOnce log lists → ((o : Owned E) → Stands lists o → Stands new (g o)) → ((o : Owned F) → Stands new o → (p : Owned E) × Stands lists p × (g p ≡ o))
    → ((o p : Owned E) → Stands lists o → Stands lists p → (g o).0 ≡ (g p).0 → (g o).1 ≡ (g p).1 → (o.0 ≡ p.0) × (o.1 ≡ p.1)) → ListedOnce (map g log) new
file_by {E} {F} g log lists new f to from one = record {
  listed = λ c l m e has is. let b = from (c, m, e) (l, has, is) in let r = f.listed b.0.0 b.1.0 b.0.1 b.0.2 b.1.1 b.1.2 in (r.0, at_map g log r.0 b.0 r.1 ∙ ap some b.2);
  stands = λ k o has. let b = at_map_back g log k o has in subst (Stands new) b.2 (to b.0 (f.stands k b.0 b.1));
  once = λ k j o p has is own num. let a = at_map_back g log k o has in let b = at_map_back g log j p is in
      let i = one a.0 b.0 (f.stands k a.0 a.1) (f.stands j b.0 b.1) (ap (λ (z : Owned F). z.0) a.2 ∙ own ∙ ap (λ (z : Owned F). z.0) (sym b.2)) (ap (λ (z : Owned F). z.1) a.2 ∙ num ∙ ap (λ (z : Owned F). z.1) (sym b.2)) in f.once k j a.0 b.0 a.1 b.1 i.0 i.1;
}

module _ {E : Type 0} where
  -- the entries of d go to c
  pub file_join : (log : List (Owned E)) (lists : List (List E)) (c d : ℕ) (a b : List E) → ListedOnce log lists → get_elem? lists c ≡ some a → get_elem? lists d ≡ some b → d ≢ c
      → ListedOnce (map (moved c d (length a)) log) (set (set lists c (a ++ b)) d [])
  file_join log lists c d a b f at_c at_d apart =
      let n : ℕ = length a in let to : Owned E → Owned E = moved c d n in let mid : List (List E) = set lists c (a ++ b) in let lists' : List (List E) = set mid d [] in
      let here : get_elem? lists' c ≡ some (a ++ b) = set_else mid d c [] (λ e. apart (sym e)) ∙ set_here lists c (a ++ b) (at_below lists c a at_c) in
      let clash : (u v : Owned E) → Stands lists u → Stands lists v → u.0 ≡ d → v.0 ≢ d → (to u).0 ≡ (to v).0 → (to u).1 ≡ (to v).1 → ⊥ = λ u v su sv du dv same0 same1.
      (let hit = moved_hit c d n u du in let miss = moved_miss c d n v dv in let below = at_below a v.1 v.2 (its lists c a at_c v sv (sym (ap (λ (z : Owned E). z.0) (sym hit) ∙ same0 ∙ ap (λ (z : Owned E). z.0) miss))) in
      let num : n + u.1 ≡ v.1 = ap (λ (z : Owned E). z.1) (sym hit) ∙ same1 ∙ ap (λ (z : Owned E). z.1) miss in omega arith) in
      file_by to log lists lists' f
      (λ o s. dite (ℕ_discrete o.0 d)
      (λ own. subst (Stands lists') (sym (moved_hit c d n o own)) (a ++ b, here, at_after a b o.1 o.2 (its lists d b at_d o s own)))
      (λ other. subst (Stands lists') (sym (moved_miss c d n o other)) (dite (ℕ_discrete o.0 c)
      (λ own. (a ++ b, subst (λ (z : ℕ). get_elem? lists' z ≡ some (a ++ b)) (sym own) here, at_longer a b o.1 o.2 (its lists c a at_c o s own)))
      (λ ne. (s.0, set_else mid d o.0 [] other ∙ (set_else lists c o.0 (a ++ b) ne ∙ s.1), s.2)))))
      (λ o s. ⊎_elim
      (λ t. absurd (some-ne-none o.2 (sym (subst (λ (z : List E). get_elem? z o.1 ≡ some o.2) (sym t.1) s.2))))
      (λ t. ⊎_elim
      (λ u. ⊎_elim
      (λ left. ((c, o.1, o.2), (a, at_c, left), moved_miss c d n (c, o.1, o.2) (λ z. apart (sym z)) ∙ (λ z. (sym u.0 z, o.1, o.2))))
      (λ right. ((d, right.0, o.2), (b, at_d, right.2), moved_hit c d n (d, right.0, o.2) refl ∙ (λ z. (sym u.0 z, sym right.1 z, o.2))))
      (at_joined a b o.1 o.2 (subst (λ (z : List E). get_elem? z o.1 ≡ some o.2) (sym u.1) s.2)))
      (λ u. (o, (s.0, u.1, s.2), moved_miss c d n o t.0))
      (at_set lists c o.0 (a ++ b) s.0 t.1))
      (at_set mid d o.0 [] s.0 s.1))
      (λ o p s r own num. dite (ℕ_discrete o.0 d)
      (λ dx. dite (ℕ_discrete p.0 d)
      (λ dy. (dx ∙ sym dy, (let e : n + o.1 ≡ n + p.1 = ap (λ (z : Owned E). z.1) (sym (moved_hit c d n o dx)) ∙ num ∙ ap (λ (z : Owned E). z.1) (moved_hit c d n p dy) in omega arith)))
      (λ ny. absurd (clash o p s r dx ny own num)))
      (λ nx. dite (ℕ_discrete p.0 d)
      (λ dy. absurd (clash p o r s dy nx (sym own) (sym num)))
      (λ ny. (ap (λ (z : Owned E). z.0) (sym (moved_miss c d n o nx)) ∙ own ∙ ap (λ (z : Owned E). z.0) (moved_miss c d n p ny), ap (λ (z : Owned E). z.1) (sym (moved_miss c d n o nx)) ∙ num ∙ ap (λ (z : Owned E). z.1) (moved_miss c d n p ny)))))

  -- all entries are those of one owner
  pub file_sole : (log : List (Owned E)) (lists : List (List E)) (c : ℕ) (l : List E) → ListedOnce log lists → get_elem? lists c ≡ some l → ((d : ℕ) (k : List E) → get_elem? lists d ≡ some k → d ≢ c → k ≡ []) → ListedOnce (map sole log) (l ∷ [])
  file_sole log lists c l f at others =
      let mine : (o : Owned E) → Stands lists o → o.0 ≡ c = λ o s. dite (ℕ_discrete o.0 c) (λ own. own) (λ ne. absurd (some-ne-none o.2 (sym (subst (λ (z : List E). get_elem? z o.1 ≡ some o.2) (others o.0 s.0 s.1 ne) s.2)))) in
      file_by sole log lists (l ∷ []) f (λ o s. (l, refl, its lists c l at o s (mine o s)))
      (λ o s. let e = only_at l s.0 o.0 s.1 in ((c, o.1, o.2), (l, at, subst (λ (z : List E). get_elem? z o.1 ≡ some o.2) e.1 s.2), λ i. (sym e.0 i, o.1, o.2))) (λ o p s r own num. (mine o s ∙ sym (mine p r), num))

-- a log of what is reported of each entry
module _ {E F : Type 0} (f : E → F) where
  abbrev pub reported : Owned E → Owned F
  reported o = (o.0, o.1, f o.2)

  pub file_map : (log : List (Owned E)) (lists : List (List E)) → ListedOnce log lists → ListedOnce (map reported log) (map (map f) lists)
  file_map log lists h = file_by reported log lists (map (map f) lists) h (λ o s. (map f s.0, at_map (map f) lists o.0 s.0 s.1, at_map f s.0 o.1 o.2 s.2))
      (λ o s. let p = at_map_back (map f) lists o.0 s.0 s.1 in let q = at_map_back f p.0 o.1 o.2 (subst (λ (z : List F). get_elem? z o.1 ≡ some o.2) (sym p.2) s.2) in ((o.0, o.1, q.0), (p.0, p.1, q.1), λ i. (o.0, o.1, q.2 i)))
      (λ o p s r own num. (own, num))
