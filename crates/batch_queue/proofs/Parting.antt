-- One compare-and-swap of a mark parts a batch that is published: then a taking may end there.
use Rattle.batch_queue.proofs.Common.{Allows, BatchState, Becomes, EndRecord, FIRST_MARK, Grows, IsBatch, IsParted, IsRest, IsUsed, IsWithin, Lawful, MarkSays, Me, OwnShows, Rule, Shape, Stepped, View, WordsShow, [], ap, arith, at_last, at_map, at_snoc, by_mark, change, dec_lt, dite, either, eqb, free_word, get_elem?, get_or, get_or-set_other, get_or-set_same, head_word, inr, items_of, keeps, mark_of, length, length-append, length-set, listed_look, map, mark_word, mod-lt, none, one_turn, part_of, parts, phase_at, positions_of, refl, set, some, step, subst, sym, tail_word, unused_kept, was_parted, with_part, with_parting, ℕ, ℕ_discrete, ⊎_elim, ◌%◌, ◌*◌, ◌+◌, ◌/◌, ◌<◌, ◌∙◌, ◌∷◌, ◌≡◌, ◌≢◌, ◌≤◌}
use Rattle.table_theory.proofs.Tables as tables
use Rattle.table_theory.proofs.Positioned as positioned
use Rattle.batch_queue.proofs.Growing.{batch_below, becomes_grows, claimed_at, freed_taken}
use Rattle.batch_queue.proofs.Owning.{own_on}
use Rattle.batch_queue.proofs.Stepping.{St, acts, first_room, found, held_by, one_place, table}
use Rattle.batch_queue.proofs.Stops.{stop_parted, within_on}

module _ (key : Shape) (n id : ℕ) (me : Me ℕ View) (word p mark end : ℕ) (within : IsWithin me.0.seen.object p end) (idle : mark / 2 ≤ p) (near : end ≤ p + me.0.first.room) (word_is : word ≡ mark_word me.0.first.room p) (live : 1 ≤ me.0.member.ends) where
  abbrev v : View
  v = me.0

  abbrev m : ℕ
  m = 2 * end

  module _ (s : St) (k : Rule key s) (at : get_elem? s.views id ≡ some v) (hit : get_or s.words word 0 ≡ mark) where
    abbrev o : BatchState
    o = k.now.object

    abbrev r : BatchState
    r = with_part o p end

    lawful : Lawful o
    lawful = k.stands.lawful

    shows : WordsShow o s.words
    shows = k.stands.shows

    here : IsWithin o p end
    here = within_on v.seen.object o (k.seen id v at) p end within

    event : Becomes o r
    event = was_parted p end here refl

    grows : Grows o r
    grows = becomes_grows o r event

    past : p < end
    past = here.0.some_item

    to_head : end ≤ length (items_of o)
    to_head = batch_below o here.0.start end here.0.batch

    close_by : end ≤ p + o.room
    close_by = let e = first_room key s k id v at in omega arith

    word_at : word ≡ mark_word o.room p
    word_at = word_is ∙ ap (λ (z : ℕ). mark_word z p) (first_room key s k id v at)

    wide : p % o.room < o.room
    wide = mod-lt p lawful.some_room

    -- another position of the window with this place is past the batch
    further : (q : ℕ) → o.freed ≤ q → q < o.freed + o.room → q ≢ p → q % o.room ≡ p % o.room → end ≤ q
    further q from to ne same = let h = to_head in let w = lawful.within in let c = close_by in let x = past in dite (dec_lt p o.freed)
        (λ low. dite (dec_lt q (p + o.room)) (λ y. absurd (ne (sym (one_turn p q o.room (omega arith) y (sym same))))) (λ no. omega arith))
        (λ no. absurd (ne (one_place o.room o.freed q p from to (omega arith) (omega arith) same)))

    -- what has the word of this place past it has another mark
    no_mark : (q e y : ℕ) → o.freed ≤ q → q < o.freed + o.room → q < e → (y ≡ 2 * e) → get_or s.words (mark_word o.room q) 0 ≡ y → mark_word o.room q ≢ word
    no_mark q e y from to less is there same = let x = past in let i = idle in let old : get_or s.words (mark_word o.room q) 0 ≡ mark = ap (λ (z : ℕ). get_or s.words z 0) same ∙ hit in let w = word_at in
        dite (ℕ_discrete q p) (λ one. omega arith) (λ ne. (let f = further q from to ne (omega arith) in omega arith))

    no_back : (q e y : ℕ) → o.freed ≤ q → q < o.freed + o.room → q < e → (y ≡ 2 * e + 1) → get_or s.words (mark_word o.room q) 0 ≡ y → mark_word o.room q ≢ word
    no_back q e y from to less is there same = let x = past in let i = idle in let old : get_or s.words (mark_word o.room q) 0 ≡ mark = ap (λ (z : ℕ). get_or s.words z 0) same ∙ hit in let w = word_at in
        dite (ℕ_discrete q p) (λ one. omega arith) (λ ne. (let f = further q from to ne (omega arith) in omega arith))

    same_words : (j : ℕ) → j ≢ word → get_or (set s.words word m) j 0 ≡ get_or s.words j 0
    same_words j ne = get_or-set_other s.words word j m 0 ne

    low_words : (j : ℕ) → j < FIRST_MARK → get_or (set s.words word m) j 0 ≡ get_or s.words j 0
    low_words j h = let i = word_is in same_words j (λ e. omega arith)

    new_word : get_or (set s.words word m) word 0 ≡ m
    new_word = get_or-set_same s.words word m 0 (let l = shows.wide in let i = word_at in let w = wide in omega arith)

    -- all of the batch is published
    up : (i : ℕ) → p ≤ i → i < end → 1 ≤ phase_at o i
    up i from to = let first = here.0.from in ⊎_elim (λ none_up. absurd (let z = none_up p first past in let y = here.2 in omega arith)) (λ all_up. all_up i (omega arith) to) (lawful.whole here.0.start end here.0.batch)

    parted_now : IsParted r p
    parted_now = (length o.parted, at_last o.parted p (length o.parted) refl)

    half : end ≡ m / 2
    half = omega arith

    my_mark : MarkSays r p m
    my_mark = record {
      up = λ e i from to. up i from (omega arith);
      back = λ e i from to. absurd (omega arith);
      bound = let c = close_by in omega arith;
      whole = λ e l. (inr parted_now, subst (IsRest o.batches p) half here.0);
      whole_back = λ e l. absurd (omega arith);
    }

    marks : (q : ℕ) → o.freed ≤ q → q < o.freed + o.room → MarkSays r q (get_or (set s.words word m) (mark_word o.room q) 0)
    marks q from to = dite (ℕ_discrete (mark_word o.room q) word)
        (λ same. subst (MarkSays r q) (sym (ap (λ (z : ℕ). get_or (set s.words word m) z 0) same ∙ new_word)) (dite (ℕ_discrete q p)
        (λ one. subst (λ (z : ℕ). MarkSays r z m) (sym one) my_mark)
        (λ ne. (let f = further q from to ne (let w = word_at in omega arith) in record { up = λ e i a b. absurd (omega arith); back = λ e i a b. absurd (omega arith); bound = omega arith; whole = λ e l. absurd (omega arith); whole_back = λ e l. absurd (omega arith) }))))
        (λ other. subst (MarkSays r q) (sym (same_words (mark_word o.room q) other)) (let t = shows.marks q from to in record {
          up = t.up;
          back = t.back;
          bound = t.bound;
          whole = λ e l. let w = t.whole e l in (stop_parted o p end q w.0, w.1);
          whole_back = t.whole_back;
        }))

    marks_are : (q : ℕ) → get_or (set s.words word m) (mark_word o.room q) 0 ≡ mark_of r q
    marks_are q = dite (ℕ_discrete (q % o.room) (p % o.room))
        (λ e. ap (λ (z : ℕ). get_or (set s.words word m) z 0) (ap (λ (z : ℕ). z + 48) e ∙ sym word_at) ∙ (new_word
        ∙ sym (ap (λ (z : ℕ). get_or (set o.marks (p % o.room) m) z 0) e ∙ get_or-set_same o.marks (p % o.room) m 0 (let l = lawful.mark_each in let n = wide in omega arith))))
        (λ ne. same_words (mark_word o.room q) (λ z. let i = word_at in ne (omega arith))
        ∙ (shows.marks_are q ∙ sym (get_or-set_other o.marks (p % o.room) (q % o.room) m 0 ne)))

    batch_mark : (q e : ℕ) → IsBatch o.batches q e → q < e → o.taken ≤ q → 1 ≤ phase_at o q → get_or (set s.words word m) (mark_word o.room q) 0 ≡ 2 * e
    batch_mark q e b l from high = let t = shows.batch_mark q e b l from high in let c = claimed_at o lawful q high in let f = freed_taken o lawful in let w = lawful.within in
        same_words (mark_word o.room q) (no_mark q e _ (omega arith) (omega arith) l refl t) ∙ t

    rest_mark : (q : ℕ) → IsParted r q → o.taken ≤ q → (e : ℕ) × IsRest o.batches q e × (get_or (set s.words word m) (mark_word o.room q) 0 ≡ 2 * e)
    rest_mark q is from = ⊎_elim
        (λ old. (let t = shows.rest_mark q (is.0, old) from in let w = lawful.parts q (is.0, old) in let high = w.1.2 in let c = claimed_at o lawful q high in let f = freed_taken o lawful in let in_room = lawful.within in
        (t.0, t.1, same_words (mark_word o.room q) (no_mark q t.0 _ (omega arith) (omega arith) t.1.some_item refl t.2) ∙ t.2)))
        (λ same. (end, subst (λ (z : ℕ). IsRest o.batches z end) same here.0, ap (λ (z : ℕ). get_or (set s.words word m) z 0) (ap (mark_word o.room) (sym same) ∙ sym word_at) ∙ new_word))
        (at_snoc o.parted p q is.0 is.1)

    taking_mark : (q e : ℕ) → IsBatch o.takings q e → q < e → o.freed ≤ q → 3 ≤ phase_at o q → get_or (set s.words word m) (mark_word o.room q) 0 ≡ 2 * e + 1
    taking_mark q e b l from high = let t = shows.taking_mark q e b l from high in let c = claimed_at o lawful q (omega arith) in let w = lawful.within in
        same_words (mark_word o.room q) (no_back q e _ from (omega arith) l refl t) ∙ t

    shows' : WordsShow r (set s.words word m)
    shows' = record {
      wide = length-set s.words word m ∙ shows.wide;
      bounded = shows.bounded;
      head = low_words head_word (omega arith) ∙ shows.head;
      tail = low_words tail_word (omega arith) ∙ shows.tail;
      free = low_words free_word (omega arith) ∙ shows.free;
      marks = marks;
      marks_are = marks_are;
      batch_mark = batch_mark;
      rest_mark = rest_mark;
      taking_mark = taking_mark;
      unused = unused_kept (IsUsed o.room) s.words word m (by_mark p word_at) shows.unused;
    }

    abbrev own : EndRecord
    own = with_parting v.own

    still : OwnShows r v.own
    still = own_on o r v.own grows (λ i x. refl) (k.owns id v at)

    mine : OwnShows r own
    mine = record { runs = still.runs; takes = still.takes; kind = still.kind; batch = still.batch; run = λ z l. let t = still.run z l in record { number = t.number; run = t.run; here = t.here; start = t.start; long = t.long; low = t.low }; taking = still.taking; holds = still.holds }

    goes : tables.Goes (table key) n id me s word m (parts p end (step n word mark m none) me (get_or s.words word 0))
    goes = acts key n id me s k at word m own r keeps (parts p end (step n word mark m none) me (get_or s.words word 0)) live (λ e. let i = word_is in omega arith)
        event
        shows'
        tt
        (λ q from to. let t = k.homes q from to in record { free = t.free; up = t.up; back = t.back })
        mine
        (λ j u e ne. (own_on o r u.own grows (λ i x. refl) (k.owns j u e), λ i c d. k.apart j id u v e at ne i c d))
        (λ x below out. held_by s.views id x v at (k.owned x below out))
        (listed_look (positions_of o) (map part_of s.views) id (part_of v) (record { queue = positions_of r; runs = v.own.runs; takes = v.own.takes }) k.listed (at_map part_of s.views id v at) refl refl (positioned.grows_refl (positions_of o)))
        refl
        (let l = length-append o.parted (p ∷ []) in omega arith)
        (λ w stays step. (stays, (λ e. (refl, (k.now, subst (λ (z : ℕ). Stepped v (change word z k.now r) own w) hit step))), λ miss. absurd (miss hit)))

  pub parts_batch : Allows (Rule key) n id me word (λ x. either (eqb x mark) m x) (parts p end (step n word mark m none) me)
  parts_batch = tables.exchanges (table key) n id me (parts p end (step n word mark m none) me) word mark m live
      (λ s k at hit. goes s k at hit)
      (λ s k at miss r. let f = found key n id me s k at word r in (f.0, (λ hit. absurd (miss hit)), λ _. (f.1, f.2)))

  -- the end of the batch by another name
  pub parts_at : (finish : ℕ) → finish ≡ end → Allows (Rule key) n id me word (λ x. either (eqb x mark) m x) (parts p finish (step n word mark m none) me)
  parts_at finish is = subst (λ (z : ℕ). Allows (Rule key) n id me word (λ x. either (eqb x mark) m x) (parts p z (step n word mark m none) me)) (sym is) parts_batch
