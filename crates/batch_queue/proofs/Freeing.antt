-- One compare-and-swap moves the window on, over places that were found given back.
use Rattle.batch_queue.proofs.Common.{Allows, BatchState, FIRST_MARK, Grows, HasBack, HomeShows, IsEdge, IsUsed, Lawful, MarkSays, Me, Rule, Shape, Stepped, View, WordsShow, add-mod_right, ap, arith, at_map, by_free, change, dec_lt, dite, either, eqb, free_word, frees, get_elem?, get_or, get_or-set_other, get_or-set_same, head_word, keeps, length-set, listed_look, map, mark_word, none, part_of, phase_at, positions_of, refl, set, some, step, subst, sym, tail_word, unused_kept, was_freed, with_freed, ℕ, ⊎_elim, ◌%◌, ◌+◌, ◌-◌, ◌<◌, ◌∙◌, ◌≡◌, ◌≢◌, ◌≤◌}
use Rattle.table_theory.proofs.Tables as tables
use Rattle.table_theory.proofs.Positioned as positioned
use Rattle.batch_queue.proofs.Growing.{becomes_grows, claimed_at, freed_taken, taken_claimed}
use Rattle.batch_queue.proofs.Owning.{own_on}
use Rattle.batch_queue.proofs.Whole.{edge_on}
use Rattle.batch_queue.proofs.Stepping.{St, acts, found, held_by, table}

module _ (key : Shape) (n id : ℕ) (me : Me ℕ View) (old new : ℕ) (more : old < new) (up : HasBack me.0 old new) (live : 1 ≤ me.0.member.ends) where
  abbrev v : View
  v = me.0

  module _ (s : St) (k : Rule key s) (at : get_elem? s.views id ≡ some v) (hit : get_or s.words free_word 0 ≡ old) where
    abbrev o : BatchState
    o = k.now.object

    abbrev r : BatchState
    r = with_freed o new

    lawful : Lawful o
    lawful = k.stands.lawful

    shows : WordsShow o s.words
    shows = k.stands.shows

    later : Grows v.seen.object o
    later = k.seen id v at

    free_is : o.freed ≡ old
    free_is = sym shows.free ∙ hit

    was : (i : ℕ) → o.freed ≤ i → i < new → 3 ≤ phase_at o i
    was i from to = let e = free_is in let g = later.freed in ⊎_elim (λ l. absurd (let l' : old < v.seen.object.freed = l in omega arith)) (λ f. let u = f.0 i (omega arith) to in let p = later.phases i in omega arith) up

    edge : IsEdge o.takings new
    edge = let e = free_is in let g = later.freed in ⊎_elim (λ l. absurd (let l' : old < v.seen.object.freed = l in omega arith)) (λ f. edge_on v.seen.object.takings o.takings later.takings.0 new later.takings.1 f.1) up

    below : new ≤ o.taken
    below = dite (dec_lt o.taken new) (λ h. let f = freed_taken o lawful in let u = was o.taken f h in let a = lawful.after o.taken (omega arith) in absurd (omega arith)) (λ no. omega arith)

    inside : new ≤ o.freed + o.room
    inside = let b = below in let t = taken_claimed o lawful in let w = lawful.within in omega arith

    same_words : (j : ℕ) → j ≢ free_word → get_or (set s.words free_word new) j 0 ≡ get_or s.words j 0
    same_words j h = get_or-set_other s.words free_word j new 0 h

    came : (p : ℕ) → o.freed + o.room ≤ p → (p - o.room + o.room ≡ p) × ((p - o.room) % o.room ≡ p % o.room)
    came p h = let e : p - o.room + o.room ≡ p = omega arith in (e, sym (add-mod_right (p - o.room) o.room) ∙ ap (λ (z : ℕ). z % o.room) e)

    reports : (p m : ℕ) → MarkSays o p m → MarkSays r p m
    reports p m t = record { up = t.up; back = t.back; bound = t.bound; whole = t.whole; whole_back = t.whole_back }

    marks : (p : ℕ) → new ≤ p → p < new + o.room → MarkSays r p (get_or (set s.words free_word new) (mark_word o.room p) 0)
    marks p from to = subst (MarkSays r p) (sym (same_words (mark_word o.room p) (λ e. omega arith))) (let e = free_is in
        dite (dec_lt p (o.freed + o.room))
        (λ y. reports p _ (shows.marks p (omega arith) y))
        (λ no. let c = came p (omega arith) in let q : ℕ = p - o.room in let i = inside in let t = shows.marks q (omega arith) (omega arith) in
        subst (λ (z : ℕ). MarkSays r p (get_or s.words (z + FIRST_MARK) 0)) c.1
        (let b = t.bound in record { up = λ z i f g. absurd (omega arith); back = λ z i f g. absurd (omega arith); bound = omega arith; whole = λ z l. absurd (omega arith); whole_back = λ z l. absurd (omega arith) })))

    homes : (p : ℕ) → new ≤ p → p < new + o.room → HomeShows r p (get_elem? s.homes (p % o.room))
    homes p from to = let e = free_is in
        dite (dec_lt p (o.freed + o.room))
        (λ y. let h = k.homes p (omega arith) y in record { free = h.free; up = h.up; back = h.back })
        (λ no. let c = came p (omega arith) in let q : ℕ = p - o.room in let i = inside in let y = (k.homes q (omega arith) (omega arith)).back (was q (omega arith) (omega arith)) in let in_room = lawful.within in
        let there : get_elem? s.homes (p % o.room) ≡ some (some y.0) = subst (λ (z : ℕ). get_elem? s.homes z ≡ some (some y.0)) c.1 y.1 in record {
          free = λ h. (y.0, there);
          up = λ h. let l = claimed_at o lawful p (omega arith) in absurd (omega arith);
          back = λ h. (y.0, there);
        })

    shows' : WordsShow r (set s.words free_word new)
    shows' = record {
      wide = length-set s.words free_word new ∙ shows.wide;
      bounded = shows.bounded;
      head = same_words head_word (λ e. omega arith) ∙ shows.head;
      tail = same_words tail_word (λ e. omega arith) ∙ shows.tail;
      free = get_or-set_same s.words free_word new 0 (let w = shows.wide in omega arith);
      marks_are = λ p. same_words (mark_word o.room p) (λ z. omega arith) ∙ shows.marks_are p;
      batch_mark = λ p e b l from phase. same_words (mark_word o.room p) (λ z. omega arith) ∙ shows.batch_mark p e b l from phase;
      rest_mark = λ p is from. let t = shows.rest_mark p is from in (t.0, t.1, same_words (mark_word o.room p) (λ z. omega arith) ∙ t.2);
      taking_mark = λ p e b l from phase. same_words (mark_word o.room p) (λ z. omega arith) ∙ shows.taking_mark p e b l (let f = free_is in omega arith) phase;
      unused = unused_kept (IsUsed o.room) s.words free_word new (by_free refl) shows.unused;
      marks = marks;
    }

    grows : Grows o r
    grows = becomes_grows o r (was_freed new (let e = free_is in omega arith) edge was refl)

    goes : tables.Goes (table key) n id me s free_word new (frees (step n free_word old new none) me (get_or s.words free_word 0))
    goes = acts key n id me s k at free_word new v.own r keeps (frees (step n free_word old new none) me (get_or s.words free_word 0)) live (λ e. omega arith)
        (was_freed new (let e = free_is in omega arith) edge was refl)
        shows'
        tt
        homes
        (own_on o r v.own grows (λ i x. refl) (k.owns id v at))
        (λ j u e ne. (own_on o r u.own grows (λ i x. refl) (k.owns j u e), λ i c d. k.apart j id u v e at ne i c d))
        (λ x below' out. held_by s.views id x v at (k.owned x below' out))
        (listed_look (positions_of o) (map part_of s.views) id (part_of v) (record { queue = positions_of r; runs = v.own.runs; takes = v.own.takes }) k.listed (at_map part_of s.views id v at) refl refl (positioned.grows_refl (positions_of o)))
        refl
        refl
        (λ w stays step. (stays, (λ e. (refl, (k.now, subst (λ (z : ℕ). Stepped v (change free_word z k.now r) v.own w) hit step))), λ miss. absurd (miss hit)))

  pub frees_on : Allows (Rule key) n id me free_word (λ x. either (eqb x old) new x) (frees (step n free_word old new none) me)
  frees_on = tables.exchanges (table key) n id me (frees (step n free_word old new none) me) free_word old new live
      (λ s k at hit. goes s k at hit)
      (λ s k at miss r. let f = found key n id me s k at free_word r in (f.0, (λ hit. absurd (miss hit)), λ _. (f.1, f.2)))
