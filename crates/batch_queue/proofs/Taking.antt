-- One compare-and-swap of the tail takes all positions that were found published, and their slots with the items.
use Rattle.batch_queue.proofs.Common.{Allows, Batch, BatchState, EndRecord, Grows, HasStop, HomeShows, IsBatch, IsStop, IsUsed, Lawful, List, MarkSays, Me, Option, OwnShows, Positions, Rule, Shape, Stepped, View, ViewsShow, WordsShow, [], ap, append-nil, arith, at_map, at_snoc, by_tail, change, concat, drop, either, eqb, free_word, get_elem?, get_or, get_or-set_other, get_or-set_same, head_word, homes_after, inl, inr, items_of, length, length-drop, length-set, length-take-le, listed_take, map, mark_word, none, part_of, phase_at, positions_of, refl, set, slots_of, some, some-injective, some-ne-none, step, subst, suc, sym, tail_of, tail_word, take, take_all, takes_tail, taking, unused_kept, was_taken, with_take, with_taken, with_taking, zero, ℕ, ⊎_elim, ◌%◌, ◌+◌, ◌-◌, ◌<◌, ◌∙◌, ◌∷◌, ◌≡◌, ◌≢◌, ◌≤◌}
use Rattle.table_theory.proofs.Tables as tables
use Rattle.table_theory.proofs.Positioned as positioned
use Rattle.batch_queue.proofs.Placing as placing
use Rattle.batch_queue.proofs.Chains.{can_take, take_carries, taken_else}
use Rattle.batch_queue.proofs.Growing.{becomes_grows, claimed_at, freed_taken, phase_grows}
use Rattle.batch_queue.proofs.Owning.{own_on}
use Rattle.batch_queue.proofs.Ranges.{is_in, range_in, range_out}
use Rattle.batch_queue.proofs.Stepping.{St, acts, first_room, found, held_by, one_place, table}
use Rattle.batch_queue.proofs.Stops.{stop_on}
use Rattle.batch_queue.proofs.Whole.{batch_end, batch_on, concat_grows, edge_on, last_batch, last_or}

part_at : (items : List ℕ) (from n i y : ℕ) → get_elem? (take n (drop from items)) i ≡ some y → y ≡ get_or items (from + i) 0
part_at [] from zero i y e = absurd (some-ne-none y (sym e))
part_at [] zero (suc n) i y e = absurd (some-ne-none y (sym e))
part_at [] (suc from) (suc n) i y e = absurd (some-ne-none y (sym e))
part_at (x ∷ xs) zero zero i y e = absurd (some-ne-none y (sym e))
part_at (x ∷ xs) zero (suc n) zero y e = sym (some-injective x y e)
part_at (x ∷ xs) zero (suc n) (suc i) y e = part_at xs zero n i y e ∙ ap (λ (z : ℕ). get_or (x ∷ xs) z 0) (let m : suc (0 + i) ≡ 0 + suc i = omega arith in m)
part_at (x ∷ xs) (suc from) n i y e = part_at xs from n i y e ∙ ap (λ (z : ℕ). get_or (x ∷ xs) z 0) (let m : suc (from + i) ≡ suc from + i = omega arith in m)

at_within : (l : List ℕ) (i y : ℕ) → get_elem? l i ≡ some y → i < length l
at_within [] i y e = absurd (some-ne-none y (sym e))
at_within (x ∷ xs) zero y e = omega arith
at_within (x ∷ xs) (suc i) y e = let h = at_within xs i y e in omega arith

module _ (key : Shape) (n id : ℕ) (v : View) (tail new : ℕ) (some_item : tail < new) (up : HasStop v tail new) (live : 1 ≤ v.member.ends) (empty_held : v.own.held.count ≡ 0) where
  module _ (s : St) (k : Rule key s) (at : get_elem? s.views id ≡ some v) (hit : get_or s.words tail_word 0 ≡ tail) where
    abbrev o : BatchState
    o = k.now.object

    abbrev r : BatchState
    r = with_taken o new

    lawful : Lawful o
    lawful = k.stands.lawful

    shows : WordsShow o s.words
    shows = k.stands.shows

    later : Grows v.seen.object o
    later = k.seen id v at

    tail_is : o.taken ≡ tail
    tail_is = sym shows.tail ∙ hit

    was : (i : ℕ) → o.taken ≤ i → i < new → phase_at o i ≡ 1
    was i from to = let e = tail_is in let a = lawful.after i from in let g = later.taken in ⊎_elim (λ l. absurd (let l' : tail < v.seen.object.taken = l in omega arith)) (λ f. let u = f.0 i (omega arith) to in let p = later.phases i in omega arith) up

    stop : IsStop o new
    stop = let e = tail_is in let g = later.taken in ⊎_elim (λ l. absurd (let l' : tail < v.seen.object.taken = l in omega arith)) (λ f. stop_on v.seen.object o later new f.1) up

    below : new ≤ length (items_of o)
    below = let e = tail_is in let u = was (new - 1) (omega arith) (omega arith) in let c = claimed_at o lawful (new - 1) (omega arith) in omega arith

    in_range : (i : ℕ) → o.taken ≤ i → i < new → phase_at r i ≡ 2
    in_range i from to = let l = lawful.long in let h = below in range_in o.phases o.taken new 2 i (omega arith) from to

    out_of : (i : ℕ) → ((o.taken ≤ i) × (i < new) → ⊥) → phase_at r i ≡ phase_at o i
    out_of i out = range_out o.phases o.taken new 2 i out

    grow : (i : ℕ) → phase_at o i ≤ phase_at r i
    grow = phase_grows o o.taken new 1 was

    abbrev ys : List ℕ
    ys = take (new - tail) (drop tail (items_of o))

    many : length ys ≡ new - tail
    many = let b = below in let d = length-drop tail (items_of o) in length-take-le (new - tail) (drop tail (items_of o)) (omega arith)

    fits : length ys ≤ o.room
    fits = let m = many in let b = below in let w = lawful.within in let f = freed_taken o lawful in let e = tail_is in omega arith

    abbrev r_part : List ℕ
    r_part = take (new - o.taken) (drop o.taken (items_of o))

    many_part : length r_part ≡ new - o.taken
    many_part = let b = below in let e = tail_is in let d = length-drop o.taken (items_of o) in length-take-le (new - o.taken) (drop o.taken (items_of o)) (omega arith)

    at_home : (i y : ℕ) → get_elem? ys i ≡ some y → get_elem? s.homes ((tail + i) % o.room) ≡ some (some y)
    at_home i y e = let l = at_within ys i y e in let m = many in let b = below in let w = lawful.within in let f = freed_taken o lawful in let t = tail_is in
        (k.homes (tail + i) (omega arith) (omega arith)).up (was (tail + i) (omega arith) (omega arith)) ∙ ap (λ (z : ℕ). some (some z)) (sym (part_at (items_of o) tail (new - tail) i y e))

    abbrev homes' : List (Option ℕ)
    homes' = homes_after s.homes [] (take_all (slots_of o.room tail ys))

    homes : (p : ℕ) → o.freed ≤ p → p < o.freed + o.room → HomeShows r p (get_elem? homes' (p % o.room))
    homes p from to = ⊎_elim
        (λ t. let y = in_range p t.0 t.1 in let b = below in let t1 = t.1 in record { free = λ h. absurd (omega arith); up = λ h. absurd (omega arith); back = λ h. absurd (omega arith) })
        (λ out. let same : get_elem? homes' (p % o.room) ≡ get_elem? s.homes (p % o.room) = taken_else o.room tail ys s.homes [] (p % o.room) (λ i l e. let m = many in let b = below in let w = lawful.within in let f = freed_taken o lawful in let t = tail_is in
        let one : tail + i ≡ p = one_place o.room o.freed (tail + i) p (omega arith) (omega arith) from to e in out (omega arith, omega arith)) in
        let was' = k.homes p from to in let e = out_of p out in record {
          free = λ h. let y = was'.free h in (y.0, same ∙ y.1);
          up = λ h. same ∙ was'.up (sym e ∙ h);
          back = λ h. let y = was'.back (omega arith) in (y.0, same ∙ y.1);
        })
        (is_in o.taken new p)

    same_words : (j : ℕ) → j ≢ tail_word → get_or (set s.words tail_word new) j 0 ≡ get_or s.words j 0
    same_words j h = get_or-set_other s.words tail_word j new 0 h

    shows' : WordsShow r (set s.words tail_word new)
    shows' = record {
      wide = length-set s.words tail_word new ∙ shows.wide;
      bounded = shows.bounded;
      head = same_words head_word (λ e. omega arith) ∙ shows.head;
      tail = get_or-set_same s.words tail_word new 0 (let w = shows.wide in omega arith);
      free = same_words free_word (λ e. omega arith) ∙ shows.free;
      marks_are = λ p. same_words (mark_word o.room p) (λ z. omega arith) ∙ shows.marks_are p;
      batch_mark = λ p e b l from phase. same_words (mark_word o.room p) (λ z. omega arith) ∙ shows.batch_mark p e b l (let t = tail_is in omega arith) (let q = out_of p (λ y. let y1 = y.1 in omega arith) in omega arith);
      marks = λ p from to. subst (MarkSays r p) (sym (same_words (mark_word o.room p) (λ e. omega arith))) (let t = shows.marks p from to in record {
        up = λ e i c d. let q = t.up e i c d in let g = grow i in omega arith;
        back = λ e i c d. let q = t.back e i c d in let g = grow i in omega arith;
        bound = t.bound;
        whole = t.whole;
        whole_back = λ e l. edge_on o.takings r.takings (r_part ∷ []) _ refl (t.whole_back e l);
      });
      rest_mark = λ p is from. let t = shows.rest_mark p is (let t = tail_is in omega arith) in (t.0, t.1, same_words (mark_word o.room p) (λ z. omega arith) ∙ t.2);
      taking_mark = λ p e b l from phase. same_words (mark_word o.room p) (λ z. omega arith) ∙ ⊎_elim
          (λ t. let inside = batch_end o.takings p e (record { before = b.before; batch = b.batch; rest = t.0; all = t.1; at = b.at; end = b.end }) in let below_taken = concat_grows inside.before o.takings inside.rest inside.all in let at = inside.at in let ti = lawful.taken_is in
          shows.taking_mark p e (record { before = b.before; batch = b.batch; rest = t.0; all = t.1; at = b.at; end = b.end }) l from (let q = out_of p (λ y. let y0 = y.0 in omega arith) in omega arith))
          (λ t. absurd (let a = b.at in let s = ap (λ (z : List (List ℕ)). length (concat z)) t.0 in let ti = lawful.taken_is in let tl = tail_is in let q = in_range p (omega arith) (let long = ap length t.1 in let m = many_part in let e' = b.end in omega arith) in omega arith))
          (last_or o.takings r_part b.before b.batch b.rest b.all);
      unused = unused_kept (IsUsed o.room) s.words tail_word new (by_tail refl) shows.unused;
    }

    abbrev own : EndRecord
    own = with_taking v.own o (new - tail)

    listed : ViewsShow (positions_of r) (set (map part_of s.views) id (record { queue = positions_of r; runs = own.runs; takes = own.takes }))
    listed = let q : Positions = positions_of o in let n = placing.cells_length (items_of o) o.phases in let e = tail_is in let b = below in
        let so_far : positions_of r ≡ with_take q (new - tail) = placing.taken o new lawful (omega arith) below was ∙ (let z : new ≡ o.taken + (new - tail) = omega arith in λ i. record q { taken = z i }) in
        subst (λ (z : Positions). ViewsShow z (set (map part_of s.views) id (record { queue = z; runs = own.runs; takes = own.takes }))) (sym so_far)
        (listed_take q (map part_of s.views) id (new - tail) (part_of v) (record { queue = with_take q (new - tail); runs = own.runs; takes = own.takes }) k.listed (at_map part_of s.views id v at) (omega arith) (omega arith) refl refl (positioned.grows_refl (with_take q (new - tail))))

    grows : Grows o r
    grows = becomes_grows o r (was_taken new (let e = tail_is in omega arith) below stop was refl)

    my_taking : (n : ℕ) → n ≡ new - o.taken → IsBatch r.takings o.taken (o.taken + n)
    my_taking n is = last_batch o.takings r_part o.taken n lawful.taken_is (many_part ∙ sym is)

    before_now : OwnShows o v.own
    before_now = k.owns id v at

    taking_long : length (taking (positions_of o) (new - tail)).places ≡ new - o.taken
    taking_long = let c = placing.cells_length (items_of o) o.phases in let e = tail_is in let b = below in let d = length-drop o.taken (positions_of o).places in length-take-le (new - tail) (drop o.taken (positions_of o).places) (omega arith) ∙ omega arith

    taking_is : IsBatch r.takings (tail_of (positions_of o)) (tail_of (positions_of o) + length (taking (positions_of o) (new - tail)).places)
    taking_is = let e : o.taken ≡ tail_of (positions_of o) = omega arith in subst (λ (y : ℕ). IsBatch r.takings y (y + length (taking (positions_of o) (new - tail)).places)) e (my_taking _ taking_long)

    mine : OwnShows r own
    mine = record {
      runs = before_now.runs;
      takes = λ m e h. ⊎_elim (λ z. batch_on o.takings r.takings (r_part ∷ []) _ _ refl (before_now.takes m e z)) (λ z. subst (λ (y : Batch). IsBatch r.takings y.start (y.start + length y.places)) z taking_is) (at_snoc v.own.takes (taking (positions_of o) (new - tail)) e m h);
      kind = λ e. omega arith;
      batch = λ e l. absurd (omega arith);
      run = λ e l. absurd (omega arith);
      taking = λ e l. my_taking (new - tail) (let t = tail_is in omega arith);
      holds = λ i h. let h0 = h.0 in let h1 = h.1 in let e = tail_is in let b = below in (in_range i (omega arith) (omega arith), omega arith);
    }

    goes : tables.Goes (table key) n id (v, []) s tail_word new (takes_tail (step n tail_word tail new none) (v, []) (get_or s.words tail_word 0))
    goes = acts key n id (v, []) s k at tail_word new own r (take_all (slots_of o.room tail ys)) (takes_tail (step n tail_word tail new none) (v, []) (get_or s.words tail_word 0)) live (λ e. omega arith)
        (was_taken new (let e = tail_is in omega arith) below stop was refl)
        shows'
        (can_take o.room tail ys s.homes [] fits at_home)
        homes
        mine
        (λ j u e ne. let h = k.owns j u e in (
          own_on o r u.own grows (λ i c. let q = h.holds i c in out_of i (λ t. h.kind (sym q.0 ∙ was i t.0 t.1))) h,
          λ i c d. let q = h.holds i c in let d0 = d.0 in let d1 = d.1 in let e' = tail_is in h.kind (sym q.0 ∙ was i (omega arith) (omega arith)),
        ))
        (λ x below' out. ⊎_elim
        (λ t. let e = tail_is in let t0 = t.0 in let t1 = t.1 in inl (omega arith, omega arith))
        (λ not_in. let same = out_of x not_in in ⊎_elim (λ m. absurd (let m0 = m.0 in let m1 = m.1 in let z = empty_held in omega arith)) (λ e. inr e)
        (held_by s.views id x v at (k.owned x below' (⊎_elim (λ z. inl (sym same ∙ z)) (λ z. inr (sym same ∙ z)) out))))
        (is_in o.taken new x))
        listed
        refl
        refl
        (λ w stays step. (
          stays,
          (λ e. record {
            at = k.now;
            tail_is = tail_is;
            stop = stop;
            step = subst (λ (z : ℕ). Stepped v (change tail_word z k.now r) own w) hit step;
            slots = take_carries o.room tail ys [] ∙ (append-nil (slots_of o.room tail ys) ∙ ap (λ (z : ℕ). slots_of z tail ys) (sym (first_room key s k id v at)));
          }),
          λ miss. absurd (miss hit),
        ))

  takes_bare : Allows (Rule key) n id (v, []) tail_word (λ x. either (eqb x tail) new x) (takes_tail (step n tail_word tail new none) (v, []))
  takes_bare = tables.exchanges (table key) n id (v, []) (takes_tail (step n tail_word tail new none) (v, [])) tail_word tail new live
      (λ s k at hit. goes s k at hit)
      (λ s k at miss r. let f = found key n id (v, []) s k at tail_word r in (f.0, (λ hit. absurd (miss hit)), λ _. (f.1, f.2)))

pub takes : (key : Shape) (n id : ℕ) (me : Me ℕ View) (tail new : ℕ) → tail < new → HasStop me.0 tail new → 1 ≤ me.0.member.ends → me.0.own.held.count ≡ 0 → me.1 ≡ []
    → Allows (Rule key) n id me tail_word (λ x. either (eqb x tail) new x) (takes_tail (step n tail_word tail new none) me)
takes key n id me tail new some_item up live held_is bare =
    subst (λ (c : List (ℕ × ℕ)). Allows (Rule key) n id (me.0, c) tail_word (λ x. either (eqb x tail) new x) (takes_tail (step n tail_word tail new none) (me.0, c))) (sym bare) (takes_bare key n id me.0 tail new some_item up live held_is)
