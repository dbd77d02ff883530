-- The course of an object, through each step of an end, a split and a join.
use Rattle.table_theory.proofs.Common.{◌≤◌, ◌≡◌, ◌≢◌, ℕ, ◌+◌, ◌<◌, ◌⊎◌, inl, inr, Bool, true, false, arith, length-set, length-append, List, [], ◌∷◌, ◌++◌, map, length, set, sym, refl, ap, ◌∙◌, subst, ⊎_elim, if◌then◌else◌, nat_lt, ltb-true, map-set, map-append, length-map, some, some-ne-none, dite, ℕ_discrete, get_elem?, Entry, Begins, later_of, Owned, entry_of, ListedOnce, moved, Continues, IsCourse, at_set, at_map, set_again}
use Rattle.std.proofs.lemmas.Bool.{ltb-false}
use Rattle.table_theory.proofs.Owned.{all_set, all_push, all_one, at_push, at_below, at_map_back, file_first, file_push, file_new, file_join, moved_hit, moved_miss}
use Rattle.table_theory.proofs.Ends.{begins_refl, begins_on, later_begins}

continues_push : {O : Type 0} (first now : O) (es : List (Entry O)) (e : Entry O) → Continues first es now → e.then ≡ now → Continues first (es ++ e ∷ []) e.next
continues_push first now [] e h t = (h ∙ sym t, refl)
continues_push first now (x ∷ xs) e h t = (h.0, continues_push x.next now xs e h.1 t)

entry_moved : {E : Type 0} (c d n : ℕ) (o : Owned E) → entry_of (moved c d n o) ≡ entry_of o
entry_moved c d n o = dite (ℕ_discrete o.0 d) (λ y. ap entry_of (moved_hit c d n o y)) (λ no. ap entry_of (moved_miss c d n o no))

entries_moved : {E : Type 0} (c d n : ℕ) (log : List (Owned E)) → map entry_of (map (moved c d n) log) ≡ map entry_of log
entries_moved c d n [] = refl
entries_moved c d n (o ∷ os) = (λ i. entry_moved c d n o i ∷ entries_moved c d n os i)

-- what is below one of two lists is below the later of them
below_later : {E : Type 0} (a b : List E) (n : ℕ) → (n < length a) ⊎ (n < length b) → n < length (later_of a b)
below_later {E} a b n h = by (nat_lt (length a) (length b)) (ltb-true (length a) (length b)) (ltb-false (length a) (length b))
  where
    by : (t : Bool) → (t ≡ true → length a < length b) → (t ≡ false → length b ≤ length a) → n < length (if t then b else a)
    by true less more = let l = less refl in ⊎_elim (λ i. omega arith) (λ i. i) h
    by false less more = let l = more refl in ⊎_elim (λ i. i) (λ i. omega arith) h

module _ {V O : Type 0} (f p : V → List (Entry O)) where
  abbrev Owns : List (Owned (Entry O)) → List V → Type 0
  Owns course vs = (k : ℕ) (o : Owned (Entry O)) (v : V) → get_elem? course k ≡ some o → get_elem? vs o.0 ≡ some v → k < length (p v)

  -- all steps up to now
  abbrev pub now_of : {first now : O} {vs : List V} → IsCourse f p first now vs → List (Entry O)
  now_of c = map entry_of c.course

  -- all steps are these, in this order
  abbrev pub Runs : O → O → List (Entry O) → List V → Type 0
  Runs first now steps vs = (c : IsCourse f p first now vs) × (map entry_of c.course ≡ steps)

  runs : (first now : O) (steps : List (Entry O)) (vs : List V) (course : List (Owned (Entry O))) → map entry_of course ≡ steps → ListedOnce course (map f vs) → Continues first steps now → ((i : ℕ) (u : V) → get_elem? vs i ≡ some u → Begins (p u) steps) → Owns course vs → Runs first now steps vs
  runs first now steps vs course is filed leads seen own = (record { course = course; filed = filed; continues = subst (λ (z : List (Entry O)). Continues first z now) (sym is) leads; seen = λ i u at. subst (Begins (p u)) (sym is) (seen i u at); own = own }, is)

  same_lists : (vs : List V) (j : ℕ) (v w : V) → get_elem? vs j ≡ some v → f w ≡ f v → map f (set vs j w) ≡ map f vs
  same_lists vs j v w at e = map-set f vs j w ∙ (ap (set (map f vs) j) e ∙ set_again (map f vs) j (f v) (at_map f vs j v at))

  owns_step : (vs : List V) (j : ℕ) (v w : V) (e : Entry O) (course : List (Owned (Entry O))) → Owns course vs → get_elem? vs j ≡ some v → length (p w) ≡ length (map entry_of course) + 1 → Owns (course ++ (j, length (f v), e) ∷ []) (set vs j w)
  owns_step vs j v w e course old at long k o u has of = let o' : Owned (Entry O) = (j, length (f v), e) in let n = length-map course entry_of in ⊎_elim
      (λ was. let below = at_below course k o was in ⊎_elim
      (λ t. subst (λ (z : V). k < length (p z)) t.1 (omega arith))
      (λ t. old k o u was t.1)
      (at_set vs j o.0 w u of))
      (λ new. ⊎_elim
      (λ t. subst (λ (z : V). k < length (p z)) t.1 (let i = new.0 in omega arith))
      (λ t. absurd (t.0 (ap (λ (z : Owned (Entry O)). z.0) (sym new.1))))
      (at_set vs j o.0 w u of))
      (at_push course o' o k has)

  -- a step of an end comes
  pub course_step : (first now : O) (vs : List V) (j : ℕ) (v w : V) (e : Entry O) (c : IsCourse f p first now vs) → get_elem? vs j ≡ some v → e.then ≡ now → f w ≡ f v ++ e ∷ [] → p w ≡ now_of c ++ e ∷ [] → Runs first e.next (now_of c ++ e ∷ []) (set vs j w)
  course_step first now vs j v w e c at found own all = let o : Owned (Entry O) = (j, length (f v), e) in let old : List (Entry O) = now_of c in runs first e.next (old ++ e ∷ []) (set vs j w) (c.course ++ o ∷ []) (map-append entry_of c.course (o ∷ []))
      (subst (ListedOnce (c.course ++ o ∷ [])) (sym (map-set f vs j w ∙ ap (set (map f vs) j) own)) (file_push c.course (map f vs) j (f v) e c.filed (at_map f vs j v at)))
      (continues_push first now old e c.continues found)
      (all_set (λ u. Begins (p u) (old ++ e ∷ [])) vs j w (λ i u has. begins_on (p u) old e (c.seen i u has)) (subst (λ z. Begins z (old ++ e ∷ [])) (sym all) (begins_refl (old ++ e ∷ []))))
      (owns_step vs j v w e c.course c.own at (ap length all ∙ length-append old (e ∷ [])))

  pub course_split : (first now : O) (vs : List V) (j : ℕ) (v left right : V) (c : IsCourse f p first now vs) → get_elem? vs j ≡ some v → f left ≡ f v → p left ≡ p v → f right ≡ [] → p right ≡ p v → Runs first now (now_of c) (set vs j left ++ right ∷ [])
  course_split first now vs j v left right c at own all none all' = let old : List (Entry O) = now_of c in runs first now old (set vs j left ++ right ∷ []) c.course refl
      (subst (ListedOnce c.course) (sym (map-append f (set vs j left) (right ∷ []) ∙ (λ i. same_lists vs j v left at own i ++ none i ∷ []))) (file_new c.course (map f vs) c.filed))
      c.continues
      (all_push (λ u. Begins (p u) old) (set vs j left) right (all_set (λ u. Begins (p u) old) vs j left c.seen (subst (λ z. Begins z old) (sym all) (c.seen j v at))) (subst (λ z. Begins z old) (sym all') (c.seen j v at)))
      (λ k o u has of. ⊎_elim
      (λ here. ⊎_elim
      (λ t. subst (λ (z : V). k < length (p z)) t.1 (subst (λ (z : List (Entry O)). k < length z) (sym all) (c.own k o v has (subst (λ (z : ℕ). get_elem? vs z ≡ some v) (sym t.0) at))))
      (λ t. c.own k o u has t.1)
      (at_set vs j o.0 left u here))
      (λ new. absurd (let s = c.filed.stands k o has in let below = at_below (map f vs) o.0 s.0 s.1 in let n = length-map vs f in let m = length-set vs j left in let i = new.0 in omega arith))
      (at_push (set vs j left) right u o.0 of))

  owns_join : (vs : List V) (j k n : ℕ) (v u both spent : V) (course : List (Owned (Entry O))) → Owns course vs → get_elem? vs j ≡ some v → get_elem? vs k ≡ some u → k ≢ j → p both ≡ later_of (p v) (p u) → Owns (map (moved j k n) course) (set (set vs j both) k spent)
  owns_join vs j k n v u both spent course old at at' ne all i o x has of = let b = at_map_back (moved j k n) course i o has in let q : Owned (Entry O) = b.0 in
      let in_both : (i < length (p v)) ⊎ (i < length (p u)) → i < length (p both) = λ h. subst (λ (z : List (Entry O)). i < length z) (sym all) (below_later (p v) (p u) i h) in dite (ℕ_discrete q.0 k)
      (λ theirs. let to : o.0 ≡ j = ap (λ (z : Owned (Entry O)). z.0) (sym b.2 ∙ moved_hit j k n q theirs) in ⊎_elim
      (λ t. absurd (ne (sym t.0 ∙ to)))
      (λ t. ⊎_elim
      (λ s. subst (λ (z : V). i < length (p z)) s.1 (in_both (inr (old i q u b.1 (subst (λ (z : ℕ). get_elem? vs z ≡ some u) (sym theirs) at')))))
      (λ s. absurd (s.0 to))
      (at_set vs j o.0 both x t.1))
      (at_set (set vs j both) k o.0 spent x of))
      (λ other. let same : o.0 ≡ q.0 = ap (λ (z : Owned (Entry O)). z.0) (sym b.2 ∙ moved_miss j k n q other) in ⊎_elim
      (λ t. absurd (other (sym same ∙ t.0)))
      (λ t. ⊎_elim
      (λ s. subst (λ (z : V). i < length (p z)) s.1 (in_both (inl (old i q v b.1 (subst (λ (z : ℕ). get_elem? vs z ≡ some v) (sym s.0 ∙ same) at)))))
      (λ s. old i q x b.1 (subst (λ (z : ℕ). get_elem? vs z ≡ some x) same s.1))
      (at_set vs j o.0 both x t.1))
      (at_set (set vs j both) k o.0 spent x of))

  pub course_join : (first now : O) (vs : List V) (j k : ℕ) (v u both spent : V) (c : IsCourse f p first now vs) → get_elem? vs j ≡ some v → get_elem? vs k ≡ some u → k ≢ j → f both ≡ f v ++ f u → p both ≡ later_of (p v) (p u) → f spent ≡ [] → p spent ≡ p v
      → Runs first now (now_of c) (set (set vs j both) k spent)
  course_join first now vs j k v u both spent c at at' ne own all none all' = let n : ℕ = length (f v) in let old : List (Entry O) = now_of c in runs first now old (set (set vs j both) k spent) (map (moved j k n) c.course) (entries_moved j k n c.course)
      (subst (ListedOnce (map (moved j k n) c.course)) (sym (map-set f (set vs j both) k spent ∙ (λ i. set ((map-set f vs j both ∙ ap (set (map f vs) j) own) i) k (none i))))
      (file_join c.course (map f vs) j k (f v) (f u) c.filed (at_map f vs j v at) (at_map f vs k u at') ne))
      c.continues
      (all_set (λ z. Begins (p z) old) (set vs j both) k spent (all_set (λ z. Begins (p z) old) vs j both c.seen (subst (λ z. Begins z old) (sym all) (later_begins (p v) (p u) old (c.seen j v at) (c.seen k u at')))) (subst (λ z. Begins z old) (sym all') (c.seen j v at)))
      (owns_join vs j k n v u both spent c.course c.own at at' ne all)

  pub course_first : (first : O) (w : V) → f w ≡ [] → p w ≡ [] → Runs first first [] (w ∷ [])
  course_first first w own all = runs first first [] (w ∷ []) [] refl (subst (λ (z : List (Entry O)). ListedOnce [] (z ∷ [])) (sym own) file_first) refl (all_one (λ u. Begins (p u) []) w (subst (λ z. Begins z []) (sym all) (begins_refl []))) (λ k o v has of. absurd (some-ne-none o (sym has)))
