-- One compare-and-swap of the head claims positions, and takes the slots of all of them.
use Rattle.batch_queue.proofs.Common.{Allows, Batch, BatchState, EndRecord, Grows, Holds, HomeShows, IsBatch, IsUsed, Lawful, List, MarkSays, Me, Option, OwnShows, POSITIONS, Positions, Rule, Shape, Stepped, View, ViewsShow, WordsShow, [], ap, append-nil, arith, at_last, at_map, at_snoc, by_head, change, claims, concat, dec_le, dec_lt, dite, either, eqb, false, free_word, fresh, get_elem?, get_or, get_or-set_other, get_or-set_same, head_of, head_word, homes_after, inl, inr, items_of, length, length-append, length-map, length-set, listed_claim, map, mark, mark_word, none, part_of, phase_at, positions_of, refl, run, set, slots_of, some, step, subst, suc, sym, tail_word, take_all, unused_kept, was_claimed, with_batch, with_claim, with_run, zero, ℕ, ⊎_elim, ◌%◌, ◌++◌, ◌+◌, ◌<◌, ◌∙◌, ◌∷◌, ◌≡◌, ◌≢◌, ◌≤◌, ◌⊎◌}
use Rattle.table_theory.proofs.Tables as tables
use Rattle.table_theory.proofs.Positioned as positioned
use Rattle.batch_queue.proofs.Placing as placing
use Rattle.batch_queue.proofs.Chains.{can_take, take_carries, taken_else, values_at}
use Rattle.batch_queue.proofs.Growing.{batch_items, becomes_grows, freed_taken, taken_claimed, unclaimed_at}
use Rattle.batch_queue.proofs.Heading.{open_head}
use Rattle.batch_queue.proofs.Owning.{own_on}
use Rattle.batch_queue.proofs.Ranges.{get_longer}
use Rattle.batch_queue.proofs.Stepping.{St, acts, first_room, found, held_by, one_place, table}
use Rattle.batch_queue.proofs.Stops.{rest_on, stop_claimed}
use Rattle.batch_queue.proofs.Whole.{batch_on, last_batch, last_or}

get_before : (xs ys : List ℕ) (i : ℕ) → i < length xs → get_or (xs ++ ys) i 0 ≡ get_or xs i 0
get_before [] ys i h = absurd (omega arith)
get_before (x ∷ xs) ys zero h = refl
get_before (x ∷ xs) ys (suc i) h = get_before xs ys i (omega arith)

module _ (key : Shape) (n id : ℕ) (v : View) (claim : List ℕ) (old new : ℕ) (some_item : 0 < length claim) (new_is : new ≡ old + length claim) (small : new < POSITIONS) (room : new ≤ v.seen.object.freed + v.first.room) (live : 1 ≤ v.member.ends) (empty_held : v.own.held.count ≡ 0) where
  module _ (s : St) (k : Rule key s) (at : get_elem? s.views id ≡ some v) (hit : get_or s.words head_word 0 ≡ old) where
    abbrev o : BatchState
    o = k.now.object

    lawful : Lawful o
    lawful = k.stands.lawful

    shows : WordsShow o s.words
    shows = k.stands.shows

    abbrev r : BatchState
    r = with_batch o claim

    is_open : (o.shut ≡ false) × (get_or s.words head_word 0 ≡ length (items_of o))
    is_open = open_head o.shut (length (items_of o)) (get_or s.words head_word 0) shows.head (let h = hit in let n = new_is in omega arith)

    head_is : length (items_of o) ≡ old
    head_is = sym is_open.1 ∙ hit

    long : length (items_of r) ≡ new
    long = ap length (batch_items o claim) ∙ (length-append (items_of o) claim ∙ (let h = head_is in let n = new_is in omega arith))

    within : new ≤ o.freed + o.room
    within = let g = k.seen id v at in let f = g.freed in let e = first_room key s k id v at in omega arith

    same_phase : (i : ℕ) → phase_at r i ≡ phase_at o i
    same_phase i = get_longer o.phases (length claim) i

    unclaimed : (i : ℕ) → old ≤ i → phase_at o i ≡ 0
    unclaimed i h = unclaimed_at o lawful i (let e = head_is in omega arith)

    values : (ys : List ℕ) × (length ys ≡ length claim) × ((i y : ℕ) → get_elem? ys i ≡ some y → get_elem? s.homes ((old + i) % o.room) ≡ some (some y))
    values = values_at o.room (length claim) old s.homes (λ i b. let e = head_is in let f = freed_taken o lawful in let t = taken_claimed o lawful in let w = within in (k.homes (old + i) (omega arith) (omega arith)).free (omega arith))

    fits : length values.0 ≤ o.room
    fits = let e = head_is in let f = freed_taken o lawful in let t = taken_claimed o lawful in let w = within in let m = values.1 in omega arith

    abbrev homes' : List (Option ℕ)
    homes' = homes_after s.homes [] (take_all (slots_of o.room old values.0))

    same_home : (p : ℕ) → o.freed ≤ p → p < o.freed + o.room → (p < old) ⊎ (new ≤ p) → get_elem? homes' (p % o.room) ≡ get_elem? s.homes (p % o.room)
    same_home p from to out = taken_else o.room old values.0 s.homes [] (p % o.room) (λ i l e. let h = head_is in let f = freed_taken o lawful in let t = taken_claimed o lawful in let w = within in let m = values.1 in
        let one : old + i ≡ p = one_place o.room o.freed (old + i) p (omega arith) (omega arith) from to e in ⊎_elim (λ y. let y' : p < old = y in absurd (omega arith)) (λ y. let y' : new ≤ p = y in absurd (omega arith)) out)

    homes : (p : ℕ) → o.freed ≤ p → p < o.freed + o.room → HomeShows r p (get_elem? homes' (p % o.room))
    homes p from to = let same_p = same_phase p in dite (dec_le old p)
        (λ le. let u = unclaimed p le in dite (dec_lt p new)
        (λ lt. record { free = λ h. let l = long in absurd (omega arith); up = λ h. absurd (omega arith); back = λ h. absurd (omega arith) })
        (λ no. let e = head_is in let same = same_home p from to (inr (omega arith)) in let y = (k.homes p from to).free (omega arith) in record { free = λ h. (y.0, same ∙ y.1); up = λ h. absurd (omega arith); back = λ h. absurd (omega arith) }))
        (λ no. let e = head_is in let same = same_home p from to (inl (omega arith)) in let was = k.homes p from to in record {
          free = λ h. let l = long in absurd (omega arith);
          up = λ h. same ∙ (was.up (omega arith) ∙ ap (λ (z : ℕ). some (some z)) (sym (ap (λ (z : List ℕ). get_or z p 0) (batch_items o claim) ∙ get_before (items_of o) claim p (omega arith))));
          back = λ h. let y = was.back (omega arith) in (y.0, same ∙ y.1);
        })

    same_words : (j : ℕ) → j ≢ head_word → get_or (set s.words head_word new) j 0 ≡ get_or s.words j 0
    same_words j h = get_or-set_other s.words head_word j new 0 h

    shows' : WordsShow r (set s.words head_word new)
    shows' = record {
      wide = length-set s.words head_word new ∙ shows.wide;
      bounded = let l = long in omega arith;
      head = get_or-set_same s.words head_word new 0 (let w = shows.wide in omega arith) ∙ (let l = long in let m = ap mark is_open.0 in let e : new ≡ length (items_of r) + mark o.shut = omega arith in e);
      tail = same_words tail_word (λ e. omega arith) ∙ shows.tail;
      free = same_words free_word (λ e. omega arith) ∙ shows.free;
      marks_are = λ p. same_words (mark_word o.room p) (λ z. omega arith) ∙ shows.marks_are p;
      batch_mark = λ p e b l from up. same_words (mark_word o.room p) (λ z. omega arith) ∙ ⊎_elim
          (λ t. shows.batch_mark p e (record { before = b.before; batch = b.batch; rest = t.0; all = t.1; at = b.at; end = b.end }) l from (let q = same_phase p in omega arith))
          (λ t. absurd (let a = b.at in let s = ap (λ (z : List (List ℕ)). length (concat z)) t.0 in let hd = head_is in let u = unclaimed p (omega arith) in let q = same_phase p in omega arith))
          (last_or o.batches claim b.before b.batch b.rest b.all);
      rest_mark = λ p is from. let t = shows.rest_mark p is from in (t.0, rest_on o.batches r.batches (claim ∷ []) p t.0 refl t.1, same_words (mark_word o.room p) (λ z. omega arith) ∙ t.2);
      taking_mark = λ p e b l from up. same_words (mark_word o.room p) (λ z. omega arith) ∙ shows.taking_mark p e b l from (let q = same_phase p in omega arith);
      unused = unused_kept (IsUsed o.room) s.words head_word new (by_head refl) shows.unused;
      marks = λ p from to. subst (MarkSays r p) (sym (same_words (mark_word o.room p) (λ e. omega arith))) (let m = shows.marks p from to in record {
        up = λ e i a b. let t = m.up e i a b in let q = same_phase i in omega arith;
        back = λ e i a b. let t = m.back e i a b in let q = same_phase i in omega arith;
        bound = m.bound;
        whole = λ e l. let t = m.whole e l in (stop_claimed o claim p t.0, rest_on o.batches r.batches (claim ∷ []) p _ refl t.1);
        whole_back = m.whole_back;
      });
    }

    abbrev own : EndRecord
    own = with_run v.own old claim

    grows : Grows o r
    grows = becomes_grows o r (was_claimed claim some_item is_open.0 (let h = head_is in let w = within in let n = new_is in omega arith) refl)

    my_batch : IsBatch r.batches old (old + length claim)
    my_batch = last_batch o.batches claim old (length claim) head_is refl

    before_now : OwnShows o v.own
    before_now = k.owns id v at

    mine : OwnShows r own
    mine = record {
      runs = λ m e h. ⊎_elim (λ z. batch_on o.batches r.batches (claim ∷ []) _ _ refl (before_now.runs m e z)) (λ z. subst (λ (y : Batch). IsBatch r.batches y.start (y.start + length y.places)) z (subst (λ (y : ℕ). IsBatch r.batches old (old + y)) (sym (length-map claim fresh)) my_batch)) (at_snoc v.own.runs (run old claim) e m h);
      takes = before_now.takes;
      kind = λ e. omega arith;
      batch = λ e z. my_batch;
      run = λ e z. record {
        number = length v.own.runs;
        run = run old claim;
        here = at_last v.own.runs (run old claim) (length v.own.runs) refl;
        start = refl;
        long = length-map claim fresh;
        low = λ i h. let w = positioned.fresh_written claim i in omega arith;
      };
      taking = λ e z. absurd (omega arith);
      holds = λ i h. (same_phase i ∙ unclaimed i h.0, let l = long in let t = h.1 in omega arith);
    }

    others : (j : ℕ) (u : View) → get_elem? s.views j ≡ some u → j ≢ id → OwnShows r u.own × ((x : ℕ) → Holds u.own.held x → Holds own.held x → ⊥)
    others j u e ne = let h = k.owns j u e in (
      own_on o r u.own grows (λ i x. same_phase i) h,
      λ x a b. let q = h.holds x a in let b0 = b.0 in let q1 = q.1 in let hd = head_is in omega arith,
    )

    listed : ViewsShow (positions_of r) (set (map part_of s.views) id (record { queue = positions_of r; runs = own.runs; takes = own.takes }))
    listed = let q : Positions = positions_of o in let n = placing.cells_length (items_of o) o.phases in let here : head_of q ≡ old = (let h = head_is in omega arith) in let t = taken_claimed o lawful in
        subst (λ (z : Positions). ViewsShow z (set (map part_of s.views) id (record { queue = z; runs = own.runs; takes = own.takes }))) (sym (placing.claimed o claim lawful))
        (listed_claim q (map part_of s.views) id (part_of v) (record { queue = with_claim q claim; runs = own.runs; takes = own.takes }) claim k.listed (at_map part_of s.views id v at) (omega arith) is_open.0 some_item (λ z. v.own.runs ++ (let e : Batch = record { start = sym here z; places = map fresh claim } in e) ∷ []) refl (positioned.grows_refl (with_claim q claim)))

    goes : tables.Goes (table key) n id (v, []) s head_word new (claims claim (step n head_word old new none) (v, []) (get_or s.words head_word 0))
    goes = acts key n id (v, []) s k at head_word new own r (take_all (slots_of o.room old values.0)) (claims claim (step n head_word old new none) (v, []) (get_or s.words head_word 0)) live (λ e. omega arith)
        (was_claimed claim some_item is_open.0 (let h = head_is in let w = within in let n = new_is in omega arith) refl)
        shows'
        (can_take o.room old values.0 s.homes [] fits values.2)
        homes
        mine
        others
        (λ x below out. dite (dec_lt x old)
        (λ y. let same = same_phase x in let hd = head_is in ⊎_elim (λ m. absurd (let m0 = m.0 in let m1 = m.1 in let z = empty_held in omega arith)) (λ e. inr e)
        (held_by s.views id x v at (k.owned x (omega arith) (⊎_elim (λ z. inl (sym same ∙ z)) (λ z. inr (sym same ∙ z)) out))))
        (λ no. inl (omega arith, let l = long in omega arith)))
        listed
        refl
        refl
        (λ w stays step. (
          stays,
          (λ e. record {
            at = k.now;
            head_is = head_is;
            step = subst (λ (z : ℕ). Stepped v (change head_word z k.now r) own w) hit step;
            values = values.0;
            many = values.1;
            slots = take_carries o.room old values.0 [] ∙ (append-nil (slots_of o.room old values.0) ∙ ap (λ (z : ℕ). slots_of z old values.0) (sym (first_room key s k id v at)));
          }),
          λ miss. absurd (miss hit),
        ))

  claims_bare : Allows (Rule key) n id (v, []) head_word (λ x. either (eqb x old) new x) (claims claim (step n head_word old new none) (v, []))
  claims_bare = tables.exchanges (table key) n id (v, []) (claims claim (step n head_word old new none) (v, [])) head_word old new live
      (λ s k at hit. goes s k at hit)
      (λ s k at miss r. let f = found key n id (v, []) s k at head_word r in (f.0, (λ hit. absurd (miss hit)), λ _. (f.1, f.2)))

pub claims_head : (key : Shape) (n id : ℕ) (me : Me ℕ View) (claim : List ℕ) (old new : ℕ) → 0 < length claim → new ≡ old + length claim → new < POSITIONS → new ≤ me.0.seen.object.freed + me.0.first.room → 1 ≤ me.0.member.ends → me.0.own.held.count ≡ 0 → me.1 ≡ []
    → Allows (Rule key) n id me head_word (λ x. either (eqb x old) new x) (claims claim (step n head_word old new none) me)
claims_head key n id me claim old new some_item is small room live held_is bare =
    subst (λ (c : List (ℕ × ℕ)). Allows (Rule key) n id (me.0, c) head_word (λ x. either (eqb x old) new x) (claims claim (step n head_word old new none) (me.0, c))) (sym bare) (claims_bare key n id me.0 claim old new some_item is small room live held_is)
