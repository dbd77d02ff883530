-- A store of a mark gives back to the table all slots that the end holds: it publishes them, or it gives places back.
use Rattle.batch_queue.proofs.Common.{Allows, Batch, BatchState, Becomes, EndRecord, FIRST_MARK, Grows, HasRun, HeldSlots, Holds, HomeShows, IsBatch, IsEdge, IsParted, IsRest, IsUsed, Lawful, List, MarkSays, Option, OwnShows, Positions, Rule, Shape, Stepped, View, ViewsShow, WordsShow, [], ap, append_assoc, arith, at_map, at_set, blank, by_mark, change, concat, concat-append, dec_lt, dite, free_word, get_elem?, get_or, get_or-set_other, get_or-set_same, give_all, head_word, homes_after, inl, inr, items_of, length, length-set, listed_look, map, mark_word, mod-lt, no_slots, none, part_of, phase_at, positions_of, raised_run, refl, releases, set, slots_of, some, step, subst, suc, sym, tail_word, times_shut, unused_kept, was_given, was_published, with_back, with_mark, with_phase, with_published, with_up, released, mark_of, with_stage, zero, ℕ, ℕ_discrete, ⊎_elim, ◌%◌, ◌*◌, ◌++◌, ◌+◌, ◌-◌, ◌/◌, ◌<◌, ◌∙◌, ◌∷◌, ◌≡◌, ◌≤◌, ◌⊎◌}
use Rattle.table_theory.proofs.Tables as tables
use Rattle.table_theory.proofs.Positioned as positioned
use Rattle.batch_queue.proofs.Placing as placing
use Rattle.batch_queue.proofs.Chains.{can_give, give_carries, given_at, given_else}
use Rattle.batch_queue.proofs.Growing.{becomes_grows, claimed_at, freed_taken, phase_grows}
use Rattle.batch_queue.proofs.Owning.{own_bare, own_on}
use Rattle.batch_queue.proofs.Ranges.{is_in, range_in, range_out}
use Rattle.batch_queue.proofs.Raising.{listed_published}
use Rattle.batch_queue.proofs.Stepping.{St, acts, first_room, held_by, one_place, table}
use Rattle.batch_queue.proofs.Stops.{batch_start}
use Rattle.batch_queue.proofs.Whole.{batch_end, one_batch}

at_get : (l : List ℕ) (i : ℕ) → i < length l → get_elem? l i ≡ some (get_or l i 0)
at_get [] i h = absurd (omega arith)
at_get (x ∷ xs) zero h = refl
at_get (x ∷ xs) (suc i) h = at_get xs i (omega arith)

get_before : (xs ys : List ℕ) (i : ℕ) → i < length xs → get_or (xs ++ ys) i 0 ≡ get_or xs i 0
get_before [] ys i h = absurd (omega arith)
get_before (x ∷ xs) ys zero h = refl
get_before (x ∷ xs) ys (suc i) h = get_before xs ys i (omega arith)

get_after : (xs ys : List ℕ) (i : ℕ) → get_or (xs ++ ys) (length xs + i) 0 ≡ get_or ys i 0
get_after [] ys i = ap (λ (z : ℕ). get_or ys z 0) (let n : 0 + i ≡ i = omega arith in n)
get_after (x ∷ xs) ys i = ap (λ (z : ℕ). get_or (x ∷ (xs ++ ys)) z 0) (let n : suc (length xs) + i ≡ suc (length xs + i) = omega arith in n) ∙ get_after xs ys i

-- the items of a claim that the end has seen are in the queue as it is
pub claim_stands : (o now : BatchState) (start : ℕ) (claim before rest : List ℕ) → Grows o now → length before ≡ start → items_of o ≡ before ++ (claim ++ rest) → (i : ℕ) → i < length claim → get_or claim i 0 ≡ get_or (items_of now) (start + i) 0
claim_stands o now start claim before rest g at is i h =
    let all : items_of now ≡ before ++ (claim ++ (rest ++ concat g.more.0)) = ap concat (sym g.more.1) ∙ (concat-append o.batches g.more.0 ∙ (ap (λ (z : List ℕ). z ++ concat g.more.0) is ∙ (append_assoc before (claim ++ rest) (concat g.more.0) ∙ ap (λ (z : List ℕ). before ++ z) (append_assoc claim rest (concat g.more.0))))) in
    sym (ap (λ (z : List ℕ). get_or z (start + i) 0) all ∙ (ap (λ (z : ℕ). get_or (before ++ (claim ++ (rest ++ concat g.more.0))) (z + i) 0) (sym at) ∙ (get_after before (claim ++ (rest ++ concat g.more.0)) i ∙ get_before claim (rest ++ concat g.more.0) i h)))

raised_batch : {bs : List (List ℕ)} (n : ℕ) (e : Batch) (i : ℕ) → IsBatch bs e.start (e.start + length e.places) → IsBatch bs (raised_run e i n).start ((raised_run e i n).start + length (raised_run e i n).places)
raised_batch zero e i h = h
raised_batch {bs} (suc n) e i h = raised_batch n (with_stage e i 2) (suc i) (subst (λ (y : ℕ). IsBatch bs e.start (e.start + y)) (sym (length-set e.places i (record { item = (get_or e.places i blank).item; stage = 2 }))) h)

module _ (key : Shape) (n id : ℕ) (v : View) (x b : ℕ) (ys : List ℕ) (m : ℕ) (kind : v.own.held.phase ≡ x) (x_is : (x ≡ 0) ⊎ (x ≡ 2)) (end : b ≡ v.own.held.start + v.own.held.count) (some_item : 0 < v.own.held.count) (many : length ys ≡ v.own.held.count) (half : m / 2 ≡ b) (odd : (x ≡ 0 → m % 2 ≡ 0) × (x ≡ 2 → m % 2 ≡ 1)) (slots : n ≡ v.first.room) (word : ℕ) (word_is : word ≡ mark_word v.first.room v.own.held.start) (live : 1 ≤ v.member.ends) where
  abbrev a : ℕ
  a = v.own.held.start

  module _ (s : St) (k : Rule key s) (long : length s.homes ≡ n) (at : get_elem? s.views id ≡ some v) (written : x ≡ 0 → (i : ℕ) → i < length ys → get_or ys i 0 ≡ get_or (items_of k.now.object) (a + i) 0) where
    abbrev o : BatchState
    o = k.now.object

    abbrev r : BatchState
    r = with_mark (with_phase o a b (suc x)) a m

    lawful : Lawful o
    lawful = k.stands.lawful

    shows : WordsShow o s.words
    shows = k.stands.shows

    mine : OwnShows o v.own
    mine = k.owns id v at

    in_held : (i : ℕ) → a ≤ i → i < b → Holds v.own.held i
    in_held i from to = (from, omega arith)

    was : (i : ℕ) → a ≤ i → i < b → phase_at o i ≡ x
    was i from to = (mine.holds i (in_held i from to)).0 ∙ kind

    to_head : b ≤ length (items_of o)
    to_head = let l = (mine.holds (b - 1) (in_held (b - 1) (omega arith) (omega arith))).1 in omega arith

    from_freed : o.freed ≤ a
    from_freed = dite (dec_lt a o.freed) (λ h. let y = lawful.taken_within a h in let f = was a (omega arith) (omega arith) in absurd (⊎_elim (λ e. let e' : x ≡ 0 = e in omega arith) (λ e. let e' : x ≡ 2 = e in omega arith) x_is)) (λ h. omega arith)

    in_range : (i : ℕ) → a ≤ i → i < b → phase_at r i ≡ suc x
    in_range i from to = let l = lawful.long in let h = to_head in range_in o.phases a b (suc x) i (omega arith) from to

    out_of : (i : ℕ) → ((a ≤ i) × (i < b) → ⊥) → phase_at r i ≡ phase_at o i
    out_of i out = range_out o.phases a b (suc x) i out

    grow : (i : ℕ) → phase_at o i ≤ phase_at r i
    grow = phase_grows o a b x was

    abbrev homes' : List (Option ℕ)
    homes' = homes_after s.homes (slots_of o.room a ys) (give_all (slots_of o.room a ys))

    same_words : (j : ℕ) → j < FIRST_MARK → get_or (set s.words word m) j 0 ≡ get_or s.words j 0
    same_words j h = let i = word_is in get_or-set_other s.words word j m 0 (λ e. omega arith)

    word_at : word ≡ mark_word o.room a
    word_at = word_is ∙ ap (λ (z : ℕ). mark_word z a) (first_room key s k id v at)

    wide : a % o.room < o.room
    wide = mod-lt a lawful.some_room

    my_mark : MarkSays r a m
    my_mark = record {
      up = λ e i from to. let y = in_range i from (omega arith) in omega arith;
      back = λ e i from to. let y = in_range i from (omega arith) in let o' = odd in ⊎_elim (λ z. let z' : x ≡ 0 = z in let zero' = o'.0 z' in absurd (omega arith)) (λ z. let z' : x ≡ 2 = z in omega arith) x_is;
      bound = let h = to_head in let w = lawful.within in let f = from_freed in omega arith;
      whole = λ e l. ⊎_elim (λ z. let b' = mine.batch (kind ∙ z) some_item in (inl (batch_start o.batches _ _ b'), record { start = a; batch = subst (IsBatch o.batches a) (sym end ∙ sym half) b'; from = omega arith; some_item = l })) (λ z. let z' : x ≡ 2 = z in let o' = odd.1 z' in absurd (omega arith)) x_is;
      whole_back = λ e l. ⊎_elim (λ z. let z' : x ≡ 0 = z in let o' = odd.0 z' in absurd (omega arith)) (λ z. let z' : x ≡ 2 = z in subst (IsEdge o.takings) (sym end ∙ sym half) (batch_end o.takings _ _ (mine.taking (kind ∙ z') some_item))) x_is;
    }

    marks : (p : ℕ) → o.freed ≤ p → p < o.freed + o.room → MarkSays r p (get_or (set s.words word m) (mark_word o.room p) 0)
    marks p from to = dite (ℕ_discrete p a)
        (λ e. subst (MarkSays r p) (sym (ap (λ (z : ℕ). get_or (set s.words word m) z 0) (ap (mark_word o.room) e ∙ sym word_at) ∙ get_or-set_same s.words word m 0 (let l = shows.wide in let i = word_at in let n = wide in omega arith))) (subst (λ (z : ℕ). MarkSays r z m) (sym e) my_mark))
        (λ ne. subst (MarkSays r p) (sym (get_or-set_other s.words word (mark_word o.room p) m 0 (λ e. let i = word_at in let h = to_head in let w = lawful.within in let f = from_freed in
        ne (one_place o.room o.freed p a from to f (omega arith) (let same : p % o.room ≡ a % o.room = omega arith in same))))) (let t = shows.marks p from to in record {
          up = λ e i c d. let q = t.up e i c d in let g = grow i in omega arith;
          back = λ e i c d. let q = t.back e i c d in let g = grow i in omega arith;
          bound = t.bound;
          whole = t.whole;
          whole_back = t.whole_back;
        }))

    marks_are : (p : ℕ) → get_or (set s.words word m) (mark_word o.room p) 0 ≡ mark_of r p
    marks_are p = dite (ℕ_discrete (p % o.room) (a % o.room))
        (λ e. ap (λ (z : ℕ). get_or (set s.words word m) z 0) (ap (λ (z : ℕ). z + 48) e ∙ sym word_at) ∙ (get_or-set_same s.words word m 0 (let l = shows.wide in let i = word_at in let n = wide in omega arith)
        ∙ sym (ap (λ (z : ℕ). get_or (set o.marks (a % o.room) m) z 0) e ∙ get_or-set_same o.marks (a % o.room) m 0 (let l = lawful.mark_each in let n = wide in omega arith))))
        (λ ne. get_or-set_other s.words word (mark_word o.room p) m 0 (λ z. let i = word_at in ne (omega arith))
        ∙ (shows.marks_are p ∙ sym (get_or-set_other o.marks (a % o.room) (p % o.room) m 0 ne)))

    fits : length ys ≤ o.room
    fits = let h = to_head in let w = lawful.within in let f = from_freed in omega arith

    homes : (p : ℕ) → o.freed ≤ p → p < o.freed + o.room → HomeShows r p (get_elem? homes' (p % o.room))
    homes p from to = ⊎_elim
        (λ t. let i : ℕ = p - a in let back : a + i ≡ p = omega arith in let e = first_room key s k id v at in
        let here : get_elem? homes' ((a + i) % o.room) ≡ some (some (get_or ys i 0)) = given_at o.room a ys s.homes i (get_or ys i 0) fits (λ z. let n : z % o.room < o.room = mod-lt z lawful.some_room in omega arith) (at_get ys i (omega arith)) in
        let there : get_elem? homes' (p % o.room) ≡ some (some (get_or ys i 0)) = subst (λ (z : ℕ). get_elem? homes' (z % o.room) ≡ some (some (get_or ys i 0))) back here in
        let now = in_range p t.0 t.1 in record {
          free = λ h. (get_or ys i 0, there);
          up = λ h. there ∙ ap (λ (z : ℕ). some (some z)) (written (omega arith) i (omega arith) ∙ ap (λ (z : ℕ). get_or (items_of o) z 0) back);
          back = λ h. (get_or ys i 0, there);
        })
        (λ out. let same : get_elem? homes' (p % o.room) ≡ get_elem? s.homes (p % o.room) = given_else o.room a ys s.homes (p % o.room) (λ i l e. let h = to_head in let w = lawful.within in let f = from_freed in
        let one : a + i ≡ p = one_place o.room o.freed (a + i) p (omega arith) (omega arith) from to e in out (omega arith, omega arith)) in
        let was' = k.homes p from to in let e = out_of p out in record {
          free = λ h. let y = was'.free h in (y.0, same ∙ y.1);
          up = λ h. same ∙ was'.up (sym e ∙ h);
          back = λ h. let y = was'.back (omega arith) in (y.0, same ∙ y.1);
        })
        (is_in a b p)

    own_batch : x ≡ 0 → IsBatch o.batches a b
    own_batch z = subst (λ (y : ℕ). IsBatch o.batches a y) (sym end) (mine.batch (kind ∙ z) some_item)

    own_taking : x ≡ 2 → IsBatch o.takings a b
    own_taking z = subst (λ (y : ℕ). IsBatch o.takings a y) (sym end) (mine.taking (kind ∙ z) some_item)

    -- a batch that begins within the run is the run
    begins : (p e : ℕ) → IsBatch o.batches p e → p < e → o.taken ≤ p → a ≤ p → p < b → (x ≡ 0) × (p ≡ a) × (e ≡ b)
    begins p e batch l from f t = ⊎_elim
        (λ z. let same = one_batch o.batches p e a b batch (own_batch z) l f t in (z, same.0, same.1))
        (λ z. absurd (let z' : x ≡ 2 = z in let one = was p f t in let low = lawful.after p from in omega arith))
        x_is

    batch_mark : (p e : ℕ) → IsBatch o.batches p e → p < e → o.taken ≤ p → 1 ≤ phase_at r p → get_or (set s.words word m) (mark_word o.room p) 0 ≡ 2 * e
    batch_mark p e batch l from up = ⊎_elim
        (λ y. let same = begins p e batch l from y.0 y.1 in let even = odd.0 same.0 in ap (λ (z : ℕ). get_or (set s.words word m) z 0) (ap (mark_word o.room) same.1 ∙ sym word_at) ∙ (get_or-set_same s.words word m 0 (let w = shows.wide in let i = word_at in let n' = wide in omega arith) ∙ (let is = same.2 in omega arith)))
        (λ out. let old = out_of p out in let c = claimed_at o lawful p (omega arith) in let f = freed_taken o lawful in let w = lawful.within in let h = to_head in let ff = from_freed in
        get_or-set_other s.words word (mark_word o.room p) m 0 (λ z. let i = word_at in out (let one : p ≡ a = one_place o.room o.freed p a (omega arith) (omega arith) ff (omega arith) (let same : p % o.room ≡ a % o.room = omega arith in same) in (omega arith, omega arith)))
        ∙ shows.batch_mark p e batch l from (omega arith))
        (is_in a b p)

    -- where a batch was parted no run begins, and no taking that is not yet made
    rest_mark : (p : ℕ) → IsParted o p → o.taken ≤ p → (e : ℕ) × IsRest o.batches p e × (get_or (set s.words word m) (mark_word o.room p) 0 ≡ 2 * e)
    rest_mark p is from = let t = shows.rest_mark p is from in let w = lawful.parts p is in let up = w.1.2 in let c = claimed_at o lawful p up in let f = freed_taken o lawful in let i = lawful.within in let h = to_head in let ff = from_freed in (
      t.0,
      t.1,
      get_or-set_other s.words word (mark_word o.room p) m 0 (λ z. let i' = word_at in let one : p ≡ a = one_place o.room o.freed p a (omega arith) (omega arith) ff (omega arith) (let same : p % o.room ≡ a % o.room = omega arith in same) in
          let there = was a (omega arith) (omega arith) in let low = lawful.after p from in let same = ap (phase_at o) one in ⊎_elim (λ e. let e' : x ≡ 0 = e in omega arith) (λ e. let e' : x ≡ 2 = e in omega arith) x_is)
          ∙ t.2,
    )

    taking_mark : (p e : ℕ) → IsBatch o.takings p e → p < e → o.freed ≤ p → 3 ≤ phase_at r p → get_or (set s.words word m) (mark_word o.room p) 0 ≡ 2 * e + 1
    taking_mark p e batch l from up = ⊎_elim
        (λ y. ⊎_elim
        (λ z. absurd (let z' : x ≡ 0 = z in let one = in_range p y.0 y.1 in omega arith))
        (λ z. let same = one_batch o.takings p e a b batch (own_taking z) l y.0 y.1 in let is_odd = odd.1 z in ap (λ (z : ℕ). get_or (set s.words word m) z 0) (ap (mark_word o.room) same.0 ∙ sym word_at) ∙ (get_or-set_same s.words word m 0 (let w = shows.wide in let i = word_at in let n' = wide in omega arith) ∙ (let is = same.1 in omega arith)))
        x_is)
        (λ out. let old = out_of p out in let c = claimed_at o lawful p (omega arith) in let w = lawful.within in let h = to_head in let ff = from_freed in
        get_or-set_other s.words word (mark_word o.room p) m 0 (λ z. let i = word_at in out (let one : p ≡ a = one_place o.room o.freed p a (omega arith) (omega arith) ff (omega arith) (let same : p % o.room ≡ a % o.room = omega arith in same) in (omega arith, omega arith)))
        ∙ shows.taking_mark p e batch l from (omega arith))
        (is_in a b p)

    shows' : WordsShow r (set s.words word m)
    shows' = record {
      wide = length-set s.words word m ∙ shows.wide;
      bounded = shows.bounded;
      head = same_words head_word (omega arith) ∙ shows.head;
      tail = same_words tail_word (omega arith) ∙ shows.tail;
      free = same_words free_word (omega arith) ∙ shows.free;
      marks_are = marks_are;
      batch_mark = batch_mark;
      rest_mark = rest_mark;
      taking_mark = taking_mark;
      unused = unused_kept (IsUsed o.room) s.words word m (by_mark a word_at) shows.unused;
      marks = marks;
    }

    own_of : (x ≡ 0) ⊎ (x ≡ 2) → EndRecord
    own_of (inl z) = with_published v.own (mine.run (kind ∙ z) some_item)
    own_of (inr z) = record v.own { held = no_slots }

    held_of : (d : (x ≡ 0) ⊎ (x ≡ 2)) → (own_of d).held ≡ no_slots
    unfolding own_of
    held_of (inl z) = refl
    held_of (inr z) = refl

    published_of : (d : (x ≡ 0) ⊎ (x ≡ 2)) → x ≡ 0 → (h : HasRun v.own) × (own_of d ≡ with_published v.own h)
    unfolding own_of
    published_of (inl z) e = (mine.run (kind ∙ z) some_item, refl)
    published_of (inr z) e = absurd (omega arith)

    given_of : (d : (x ≡ 0) ⊎ (x ≡ 2)) → x ≡ 2 → own_of d ≡ record v.own { held = no_slots }
    unfolding own_of
    given_of (inl z) e = absurd (omega arith)
    given_of (inr z) e = refl

    abbrev Lists : Positions → EndRecord → Type 0
    Lists q d = ViewsShow q (set (map part_of s.views) id (record { queue = q; runs = d.runs; takes = d.takes }))

    listed_of : (d : (x ≡ 0) ⊎ (x ≡ 2)) → Lists (positions_of r) (own_of d)
    unfolding own_of
    listed_of (inl z) = let h = mine.run (kind ∙ z) some_item in let n : ℕ = length h.run.places in let long' = h.long in let q : Positions = positions_of o in
        let taken_before : o.taken ≤ a = dite (dec_lt a o.taken) (λ y. let two = lawful.before a y in let w = was a (omega arith) (omega arith) in absurd (omega arith)) (λ no. omega arith) in
        let start = h.start in let head = to_head in
        subst (λ (y : ℕ). Lists (positions_of (with_mark (with_phase o a b (suc y)) a m)) (with_published v.own h)) (sym z)
        (subst (λ (y : ℕ). Lists (positions_of (with_phase o a y 1)) (with_published v.own h)) (let e : a + n ≡ b = omega arith in e)
        (subst (λ (y : Positions). Lists y (with_published v.own h)) (sym (placing.published o a n lawful (omega arith)))
        (listed_published q (map part_of s.views) id h.number a (part_of v) h.run k.listed (at_map part_of s.views id v at) h.here (omega arith) (omega arith) taken_before h.low (λ i. placing.cells_low (items_of o) o.phases i))))
    listed_of (inr z) = let q : Positions = positions_of o in
        subst (λ (y : ℕ). Lists (positions_of (with_mark (with_phase o a b (suc y)) a m)) (record v.own { held = no_slots })) (sym z)
        (subst (λ (y : Positions). Lists y (record v.own { held = no_slots })) (sym (placing.given o a b lawful to_head (λ i f t. was i f t ∙ z)))
        (listed_look q (map part_of s.views) id (part_of v) (record { queue = q; runs = v.own.runs; takes = v.own.takes }) k.listed (at_map part_of s.views id v at) refl refl (positioned.grows_refl q)))

    -- each run is a batch as before, also the one that is published now
    runs_of : (d : (x ≡ 0) ⊎ (x ≡ 2)) (n : ℕ) (e : Batch) → get_elem? (own_of d).runs n ≡ some e → IsBatch o.batches e.start (e.start + length e.places)
    unfolding own_of
    runs_of (inl z) n e has = let h = mine.run (kind ∙ z) some_item in ⊎_elim
        (λ t. subst (λ (y : Batch). IsBatch o.batches y.start (y.start + length y.places)) t.1 (raised_batch (length h.run.places) h.run 0 (mine.runs h.number h.run h.here)))
        (λ t. mine.runs n e t.1)
        (at_set v.own.runs h.number n (raised_run h.run 0 (length h.run.places)) e has)
    runs_of (inr z) n e has = mine.runs n e has

    takes_of : (d : (x ≡ 0) ⊎ (x ≡ 2)) (n : ℕ) (e : Batch) → get_elem? (own_of d).takes n ≡ some e → IsBatch o.takings e.start (e.start + length e.places)
    unfolding own_of
    takes_of (inl z) n e has = mine.takes n e has
    takes_of (inr z) n e has = mine.takes n e has

    abbrev own : EndRecord
    own = own_of x_is

    no_in_held : (i : ℕ) → Holds own.held i → ⊥
    no_in_held i h = let h' : Holds no_slots i = subst (λ (z : HeldSlots). Holds z i) (held_of x_is) h in let l = h'.1 in omega arith

    up_is : x ≡ 0 → r ≡ with_up o a b
    up_is z = let even = odd.0 z in let e : m ≡ 2 * b = omega arith in λ i. with_mark (with_phase o a b (suc (z i))) a (e i)

    back_is : x ≡ 2 → r ≡ with_back o a b
    back_is z = let is_odd = odd.1 z in let e : m ≡ 2 * b + 1 = omega arith in λ i. with_mark (with_phase o a b (suc (z i))) a (e i)

    next_is : (x ≡ 0) ⊎ (x ≡ 2) → r ≡ released o x a b
    next_is (inl z) = up_is z ∙ ap (λ (y : ℕ). released o y a b) (sym z)
    next_is (inr z) = back_is z ∙ ap (λ (y : ℕ). released o y a b) (sym z)

    event : (x ≡ 0) ⊎ (x ≡ 2) → Becomes o r
    event (inl z) = was_published a b (omega arith) (own_batch z) (λ i f t. was i f t ∙ z) (up_is z)
    event (inr z) = was_given a b (omega arith) (own_taking z) (λ i f t. was i f t ∙ z) (back_is z)

    grows : Grows o r
    grows = becomes_grows o r (event x_is)

    shuts_of_own : (d : (x ≡ 0) ⊎ (x ≡ 2)) → times_shut o + (own_of d).shuts ≡ times_shut o + v.own.shuts
    unfolding own_of
    shuts_of_own (inl z) = refl
    shuts_of_own (inr z) = refl

    parts_of_own : (d : (x ≡ 0) ⊎ (x ≡ 2)) → length o.parted + (own_of d).parts ≡ length o.parted + v.own.parts
    unfolding own_of
    parts_of_own (inl z) = refl
    parts_of_own (inr z) = refl

    own_now : OwnShows r own
    own_now = own_bare r own (runs_of x_is) (takes_of x_is) (held_of x_is)

    goes : tables.Goes (table key) n id (v, slots_of o.room a ys) s word m (releases (step n word m 0 none) (v, slots_of o.room a ys) m)
    goes = acts key n id (v, slots_of o.room a ys) s k at word m own r (give_all (slots_of o.room a ys)) (releases (step n word m 0 none) (v, slots_of o.room a ys) m) live (λ e. let i = word_is in omega arith)
        (event x_is)
        shows'
        (can_give (slots_of o.room a ys) s.homes (slots_of o.room a ys))
        homes
        own_now
        (λ j u e ne. (
          own_on o r u.own grows (λ i c. out_of i (λ t. k.apart j id u v e at ne i c (in_held i t.0 t.1))) (k.owns j u e),
          λ i c d. no_in_held i d,
        ))
        (λ y below out. ⊎_elim
        (λ t. let now = in_range y t.0 t.1 in absurd (⊎_elim (λ e. let e' : x ≡ 0 = e in ⊎_elim (λ z. let z' : phase_at r y ≡ 0 = z in omega arith) (λ z. let z' : phase_at r y ≡ 2 = z in omega arith) out) (λ e. let e' : x ≡ 2 = e in ⊎_elim (λ z. let z' : phase_at r y ≡ 0 = z in omega arith) (λ z. let z' : phase_at r y ≡ 2 = z in omega arith) out) x_is))
        (λ not_in. let same = out_of y not_in in ⊎_elim (λ m. absurd (not_in (m.0, (let m1 = m.1 in omega arith)))) (λ e. inr e)
        (held_by s.views id y v at (k.owned y below (⊎_elim (λ z. inl (sym same ∙ z)) (λ z. inr (sym same ∙ z)) out))))
        (is_in a b y))
        (listed_of x_is)
        (shuts_of_own x_is)
        (parts_of_own x_is)
        (λ w stays step. (
          stays,
          record {
            at = k.now;
            found = get_or s.words word 0;
            own = own;
            published = λ e. published_of x_is (sym kind ∙ e);
            given = λ e. given_of x_is (sym kind ∙ e);
            step = subst (λ (z : ℕ). Stepped v (change word (get_or s.words word 0) k.now (released o v.own.held.phase a z)) own w) end (subst (λ (z : ℕ). Stepped v (change word (get_or s.words word 0) k.now (released o z a b)) own w) (sym kind) (subst (λ (z : BatchState). Stepped v (change word (get_or s.words word 0) k.now z) own w) (next_is x_is) step));
            bare = give_carries o.room a ys;
          },
        ))

  pub releasing : (written : (s : St) (k : Rule key s) → get_elem? s.views id ≡ some v → x ≡ 0 → (i : ℕ) → i < length ys → get_or ys i 0 ≡ get_or (items_of k.now.object) (a + i) 0) (c : List (ℕ × ℕ)) → c ≡ slots_of v.first.room a ys
      → Allows (Rule key) n id (v, c) word (λ _. m) (λ _. releases (step n word m 0 none) (v, c) m)
  releasing written c is s k long at small = subst (λ (z : List (ℕ × ℕ)). tables.Goes (table key) n id (v, z) s word m (releases (step n word m 0 none) (v, z) m)) (ap (λ (z : ℕ). slots_of z a ys) (sym (first_room key s k id v at)) ∙ sym is) (goes s k long at (written s k at))
