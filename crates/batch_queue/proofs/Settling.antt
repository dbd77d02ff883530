-- The items and numbers that are read from a closed table.
use Rattle.batch_queue.proofs.Common.{parts_of, AreInOrder, AreSolid, Batch, BatchState, IsEdge, IsStop, Lawful, Bool, Cell, ClosedNow, EndRecord, HeldSlots, Holds, IsBatch, InvHeldOf, IsSettled, IsWhole, List, AbsState, OwnShows, Owned, POSITIONS, PartsShow, QueueView, Rule, SHUT, Shape, View, ViewsShow, WordsShow, [], ap, arith, at_map, concat, dec_lt, dite, drop, ends_word, entry_of, false, get_elem?, get_or, head_word, inl, item_of, items_of, left_from, left_is, length, line_of, map, mark, no_slots, nothing_did, part_of, phase_at, positions_of, refl, shuts_of, some, some-injective, some-ne-none, subst, suc, sym, tail_word, take, true, zero, ℕ, ℕ_discrete, ◌%◌, ◌+◌, ◌-◌, ◌<◌, ◌∙◌, ◌∷◌, ◌≡◌, ◌≢◌, ◌≤◌, ◌⊎◌, ⊎_elim, mark_word, ◌/◌}
use Rattle.std.specs.Prelude.{Some, None}
use Rattle.std.specs.List.{slice_get}
use Rattle.std.proofs.Common.{◌*◌}
use Rattle.std.specs.Mem.Slots.{slots_items}
use Rattle.batch_queue.specs.Lefts.{AllPublished, items_left, mark_left}
use Rattle.batch_queue.specs.declared.left.LeftItems.{LeftItems}
use Rattle.std.proofs.lemmas.List.{drop_more, drop_all, take-map}
use Rattle.std.proofs.Math.Path.{transport}
use Rattle.atomic_table.specs.Table.{Final, Seen}
use Rattle.table_theory.specs.Ledgers.{Tallied}
use Rattle.table_theory.specs.Listing.{IsListed}
use Rattle.table_theory.specs.declared.views.Part.{Part}
use Rattle.table_theory.proofs.Cutting.{settled}
use Rattle.table_theory.proofs.Listing.{first_seen, listed_sole}
use Rattle.table_theory.proofs.Positioned as positioned
use Rattle.table_theory.proofs.Owned.{at_map_back, file_map, one_at, reported}
use Rattle.table_theory.proofs.Reading.{read_length, read_word}
use Rattle.table_theory.proofs.Stepping.{closes as closed, rest_idle}
use Rattle.table_theory.proofs.Totals.{sole_total}
use Rattle.batch_queue.proofs.Growing.{claimed_at, freed_taken, taken_claimed}
use Rattle.batch_queue.proofs.Grouping.{lines_are}
use Rattle.batch_queue.proofs.Placing.{cells_items, cells_length}
use Rattle.batch_queue.proofs.Stepping.{St}
use Rattle.batch_queue.proofs.Whole.{Lists, batch_end, edge_batch}

pub low_of : (n h : ℕ) (b : Bool) → n < SHUT → h ≡ n + mark b → h % SHUT ≡ n
low_of n h true bounded is = omega arith
low_of n h false bounded is = omega arith

reported_entries : (log : List (Owned Batch)) → map entry_of (map (reported line_of) log) ≡ map line_of (map entry_of log)
reported_entries [] = refl
reported_entries (o ∷ os) = ap (λ (z : Lists). line_of o.2 ∷ z) (reported_entries os)

no_part : (xs : List ℕ) → length xs ≡ 0 → xs ≡ []
no_part [] e = refl
no_part (x ∷ xs) e = absurd (omega arith)

one_list : (l m : List Batch) (c : ℕ) → get_elem? (l ∷ []) c ≡ some m → m ≡ l
one_list l m zero e = sym (some-injective l m e)
one_list l m (suc c) e = absurd (some-ne-none m (sym e))

-- what one end lists is, in the order of positions, the batches
in_order : (bs : Lists) (places : List Cell) (log : List (Owned Batch)) (l : List Batch) → IsListed 0 places log (l ∷ []) → AreSolid bs → ((m : ℕ) (e : Batch) → get_elem? l m ≡ some e → IsBatch bs e.start (e.start + length e.places)) → map item_of places ≡ concat bs → AreInOrder bs (map line_of l)
in_order bs places log l h solid each items = record {
  log = map (reported line_of) log;
  once = file_map line_of log (l ∷ []) h.filed;
  is = reported_entries log ∙ lines_are bs log [] bs refl h.adjacent solid (λ k o at. let s = h.filed.stands k o at in (h.solid k o at, each o.1 o.2 (subst (λ (z : List Batch). get_elem? z o.1 ≡ some o.2) (one_list l s.0 o.0 s.1) s.2))) (ap (map item_of) h.flat ∙ items);
}

left_all : (room : ℕ) (items slots : List ℕ) (n i : ℕ) → i + n ≡ length items → ((p : ℕ) → i ≤ p → p < length items → get_or slots (p % room) 0 ≡ get_or items p 0) → left_from room slots i n ≡ drop i items
left_all room items slots zero i long home = sym (drop_all i items (omega arith))
left_all room items slots (suc n) i long home = let e : suc i ≡ i + 1 = omega arith in
    (λ k. home i (omega arith) (omega arith) k ∷ (ap (λ (z : ℕ). left_from room slots z n) e ∙ left_all room items slots n (i + 1) (omega arith) (λ p from to. home p (omega arith) to)) k) ∙ sym (drop_more items i 0 (omega arith))

pub read_get : (room : ℕ) (slots : List ℕ) (p n i : ℕ) → i < n → slice_get (left_from room slots p n) i ≡ Some (get_or slots ((p + i) % room) 0)
read_get room slots p zero i h = absurd (omega arith)
read_get room slots p (suc n) zero h = ap (λ (z : ℕ). Some (get_or slots (z % room) 0)) (let e : p ≡ p + 0 = omega arith in e)
read_get room slots p (suc n) (suc i) h = read_get room slots (suc p) n i (omega arith) ∙ ap (λ (z : ℕ). Some (get_or slots (z % room) 0)) (let e : suc p + i ≡ p + suc i = omega arith in e)

pub read_none : (room : ℕ) (slots : List ℕ) (p n i : ℕ) → n ≤ i → slice_get (left_from room slots p n) i ≡ None
read_none room slots p zero i h = refl
read_none room slots p (suc n) zero h = absurd (omega arith)
read_none room slots p (suc n) (suc i) h = read_none room slots (suc p) n i (omega arith)

-- the head that is read is not before the tail
pub spans : (key : Shape) (id h t : ℕ) (w : View) (ws slots : List ℕ) → Final (Seen (Rule key) id w) ws slots → get_elem? ws head_word ≡ some h → get_elem? ws tail_word ≡ some t → (t ≤ h % SHUT) × (h % SHUT < POSITIONS)
spans key id h t w ws slots fin at_h at_t = let k = fin.1.0 in let o : BatchState = k.now.object in let sh : WordsShow o ws = subst (WordsShow o) fin.2 k.stands.shows in
    let bounded = sh.bounded in let hd : h % SHUT ≡ length (items_of o) = low_of (length (items_of o)) h o.shut (omega arith) (sym (read_word ws head_word h at_h) ∙ sh.head) in let tl : t ≡ o.taken = sym (read_word ws tail_word t at_t) ∙ sh.tail in let c = taken_claimed o k.stands.lawful in (omega arith, omega arith)

-- an end with the whole lists the queue alone
sole : (key : Shape) (s : St) (k : Rule key s) (id : ℕ) (w : View) → get_elem? s.views id ≡ some w → IsWhole w.member.share → PartsShow (positions_of k.now.object) (part_of w ∷ [])
sole key s k id w at whole = listed_sole (positions_of k.now.object) (map part_of s.views) id (part_of w) k.listed.lists (at_map part_of s.views id w at)
    (λ i u has ne. let b = at_map_back part_of s.views i u has in subst (λ (z : QueueView). (z.runs ≡ []) × (z.takes ≡ [])) b.2 (let o = rest_idle k.stands id w at whole i b.0 b.1 ne in ((λ j. (o.own j).runs), λ j. (o.own j).takes)))

none_held : (d : EndRecord) (i : ℕ) → d.held ≡ no_slots → Holds d.held i → ⊥
none_held d i e h = let h' : Holds no_slots i = subst (λ (z : HeldSlots). Holds z i) e h in let l = h'.0 in let r = h'.1 in omega arith

-- if no end holds a slot, each item that is left is published
up_left : (key : Shape) (s : St) (k : Rule key s) (id : ℕ) (w : View) → get_elem? s.views id ≡ some w → w.own.held ≡ no_slots → ((i : ℕ) (u : View) → get_elem? s.views i ≡ some u → i ≢ id → u.own ≡ nothing_did)
    → (p : ℕ) → p < length (items_of k.now.object) → 1 ≤ phase_at k.now.object p
up_left key s k id w at bare idle p below = let o : BatchState = k.now.object in
    dite (dec_lt 0 (phase_at o p)) (λ y. omega arith) (λ no. let h = k.owned p below (inl (omega arith)) in absurd (dite (ℕ_discrete h.number id)
    (λ same. let is : h.view ≡ w = one_at s.views id h.view w (subst (λ (z : ℕ). get_elem? s.views z ≡ some h.view) same h.here) at in none_held h.view.own p (ap (λ (z : View). z.own.held) is ∙ bare) h.in_held)
    (λ ne. none_held h.view.own p (ap (λ (z : EndRecord). z.held) (idle h.number h.view h.here ne)) h.in_held)))

-- if no end holds a slot, each item that is left is in the slot of its place
left_home : (key : Shape) (s : St) (k : Rule key s) (id : ℕ) (w : View) → get_elem? s.views id ≡ some w → w.own.held ≡ no_slots → ((i : ℕ) (u : View) → get_elem? s.views i ≡ some u → i ≢ id → u.own ≡ nothing_did)
    → (p : ℕ) → k.now.object.taken ≤ p → p < length (items_of k.now.object) → get_elem? s.homes (p % k.now.object.room) ≡ some (some (get_or (items_of k.now.object) p 0))
left_home key s k id w at bare idle p from below = let o : BatchState = k.now.object in let a = k.stands.lawful.after p from in let f = freed_taken o k.stands.lawful in let r = k.stands.lawful.within in
    let up = up_left key s k id w at bare idle p below in (k.homes p (omega arith) (omega arith)).up (omega arith)

pub closes : (key : Shape) (v w : View) (id h t put : ℕ) (ws slots left : List ℕ) → v.member.ends ≡ 1 → v.own.held ≡ no_slots → Tallied ends_word v 1 w → Final (Seen (Rule key) id w) ws slots → get_elem? ws head_word ≡ some h → get_elem? ws tail_word ≡ some t
    → put ≡ h % SHUT → left ≡ left_from key.room slots t (put - t) → ClosedNow v put t left
closes key v w id h t put ws slots left one_end bare tallied fin at_h at_t put_is left_is =
    let s : St = fin.0 in let k = fin.1.0 in let here = fin.1.1 in let o : BatchState = k.now.object in let sh : WordsShow o ws = subst (WordsShow o) fin.2 k.stands.shows in let lawful = k.stands.lawful in
    let c = closed k.stands id v w here ends_word 1 tallied refl one_end in let bounded = sh.bounded in
    let hd : h % SHUT ≡ length (items_of o) = low_of (length (items_of o)) h o.shut (omega arith) (sym (read_word ws head_word h at_h) ∙ sh.head) in let tl : t ≡ o.taken = sym (read_word ws tail_word t at_t) ∙ sh.tail in
    let claimed = taken_claimed o lawful in let within = lawful.within in let following = freed_taken o lawful in let bare_w : w.own.held ≡ no_slots = ap (λ (z : EndRecord). z.held) tallied.made.did ∙ bare in
    let listed = sole key s k id w here (ap (λ (z : Part). z.share) tallied.made.member ∙ c.whole) in let n = cells_length (items_of o) o.phases in let m = cells_items (items_of o) o.phases lawful.long in let own : OwnShows o w.own = k.owns id w here in
    let home : (p : ℕ) → o.taken ≤ p → p < length (items_of o) → get_or slots (p % o.room) 0 ≡ get_or (items_of o) p 0 = (λ p from below. read_word slots (p % o.room) _ (fin.4 (p % o.room) _ (left_home key s k id w here bare_w (λ i u at ne. (c.idle i u at ne).own) p from below))) in
    let parted : w.own.parts ≡ length o.parted = sym (sole_total parts_of s.views id w here (λ i u has ne. (λ j. ((c.idle i u has ne).own j).parts))) ∙ k.parted_once in
    let is : left ≡ drop t (items_of o) = left_is ∙ ((λ i. left_from (sym k.room i) slots t (put - t)) ∙ (let x = put_is in left_all o.room (items_of o) slots (put - t) t (omega arith) (λ p from below. home p (omega arith) below))) in
    transport (λ i. ClosedNow (record v { own = tallied.made.did i; seen = c.now_is i }) put t left) record {
      whole = c.whole;
      sole = ap (λ (z : AbsState BatchState). z.ends) c.now_is ∙ c.sole;
      joined = c.joined;
      puts = put_is ∙ hd;
      taken_is = tl;
      within = let x = put_is in omega arith;
      left_is = is;
      settled = subst (λ (z : List ℕ). IsSettled z t (map line_of w.own.runs) (map line_of w.own.takes)) m (settled (part_of w) (positions_of o) t listed (omega arith) tl);
      batches = in_order o.batches (positions_of o).places listed.runs w.own.runs listed.runs_are lawful.solid own.runs m;
      takings = in_order o.takings (take o.taken (positions_of o).places) listed.takes w.own.takes listed.takes_are lawful.solid_takings own.takes (sym (take-map item_of o.taken (positions_of o).places) ∙ (ap (take o.taken) m ∙ sym lawful.items));
      parts = parted;
      groups = λ none. lawful.groups (no_part o.parted (sym parted ∙ none));
      shut_once = sym (sole_total shuts_of s.views id w here (λ i u has ne. (λ j. ((c.idle i u has ne).own j).shuts))) ∙ k.shut_once;
      listed = record { runs = listed.runs; takes = listed.takes; runs_are = listed.runs_are; takes_are = listed.takes_are };
    }

-- an end with the whole lists what it has seen alone
pub whole_lists : (v : View) → InvHeldOf v → IsWhole v.member.share → ViewsShow (positions_of v.seen.object) (part_of v ∷ [])
whole_lists v r whole = record {
  lists = subst (λ (z : AbsState BatchState). PartsShow (positions_of z.object) (part_of v ∷ [])) (sym r.seen) (sole r.key r.state r.rule r.number v r.here whole);
  seen = first_seen (positions_of v.seen.object) (part_of v) (positioned.grows_refl (positions_of v.seen.object));
}

-- the views of all ends list what an end has seen, its own among them
pub ruled_lists : (v : View) → InvHeldOf v → (views : List QueueView) × (seat : ℕ) × ViewsShow (positions_of v.seen.object) views × (get_elem? views seat ≡ some (part_of v))
ruled_lists v r = (map part_of r.state.views, r.number, subst (λ (z : AbsState BatchState). ViewsShow (positions_of z.object) (map part_of r.state.views)) (sym r.seen) r.rule.listed, at_map part_of r.state.views r.number v r.here)

-- WHAT IS PUBLISHED

-- the batch, or the rest of one, from the position p on is published up to e: its mark says so
record MarkedTo (o : BatchState) (words : List ℕ) (p e : ℕ) : Type 0 where
  says : get_or words (mark_word o.room p) 0 ≡ 2 * e
  past : p < e
  at_edge : IsEdge o.batches e

-- a batch, or the rest of one, from a position on that is not taken has its mark
marked_to : (o : BatchState) (words : List ℕ) (p : ℕ) → Lawful o → WordsShow o words → o.taken ≤ p → IsStop o p → 1 ≤ phase_at o p → (e : ℕ) × MarkedTo o words p e
marked_to o words p l h later stop up = ⊎_elim
    (λ edge. (let t = edge_batch o.batches p edge (claimed_at o l p up) in (t.0, record { says = h.batch_mark p t.0 t.1 t.2 later up; past = t.2; at_edge = batch_end o.batches p t.0 t.1 })))
    (λ parted. (let t = h.rest_mark p parted later in (t.0, record { says = t.2; past = t.1.some_item; at_edge = batch_end o.batches t.1.start t.0 t.1.batch })))
    stop

-- from a stop on, marks lead past each position that is published, if all from the stop up to it are
covered : (n : ℕ) (o : BatchState) (words : List ℕ) (q p : ℕ) → p < q + n → Lawful o → WordsShow o words → o.taken ≤ q → IsStop o q → q ≤ p → ((i : ℕ) → q ≤ i → i ≤ p → 1 ≤ phase_at o i)
    → (s e : ℕ) × (q ≤ s) × (s ≤ p) × (p < e) × (get_or words (mark_word o.room s) 0 ≡ 2 * e)
covered zero o words q p near l h later stop le up = absurd (omega arith)
covered (suc n) o words q p near l h later stop le up = let t = marked_to o words q l h later stop (up q (omega arith) le) in let e : ℕ = t.0 in let m = t.1 in let past : q < e = m.past in dite (dec_lt p e)
    (λ y. (q, e, omega arith, le, y, m.says))
    (λ no. let r = covered n o words e p (omega arith) l h (omega arith) (inl m.at_edge) (omega arith) (λ i near_i to. up i (omega arith) to) in (r.0, r.1, (let a = r.2 in omega arith), r.3, r.4, r.5))

-- a mark that is twice the end of a batch leads on, up to there
leads : (start first past m p e : ℕ) → start + first ≡ p → start + past ≡ e → p < e → m ≡ 2 * e → ((m % 2 ≡ 0) × (start + first < m / 2)) × (start + past ≡ m / 2)
leads start first past m p e a b less is = ((omega arith, omega arith), omega arith)

-- by the marks of a closed table, all items left are published
pub published_left : (key : Shape) (v w : View) (id h t : ℕ) (ws slots : List ℕ) (left : LeftItems) → v.member.ends ≡ 1 → v.own.held ≡ no_slots → Tallied ends_word v 1 w → Final (Seen (Rule key) id w) ws slots → get_elem? ws head_word ≡ some h → get_elem? ws tail_word ≡ some t
    → left.room ≡ key.room → left.start ≡ t → left.count ≡ h % SHUT - t → slots_items left.closed.words ≡ ws → AllPublished left
published_left key v w id h t ws slots left one_end bare tallied fin at_h at_t rooms start count words i less =
    let s : St = fin.0 in let k = fin.1.0 in let here = fin.1.1 in let o : BatchState = k.now.object in let sh : WordsShow o ws = subst (WordsShow o) fin.2 k.stands.shows in let lawful = k.stands.lawful in
    let c = closed k.stands id v w here ends_word 1 tallied refl one_end in let bounded = sh.bounded in
    let hd : h % SHUT ≡ length (items_of o) = low_of (length (items_of o)) h o.shut (omega arith) (sym (read_word ws head_word h at_h) ∙ sh.head) in let tl : t ≡ o.taken = sym (read_word ws tail_word t at_t) ∙ sh.tail in
    let bare_w : w.own.held ≡ no_slots = ap (λ (z : EndRecord). z.held) tallied.made.did ∙ bare in
    let long : length (items_left left) ≡ left.count = read_length _ left.start left.count in let below : i < left.count = subst (λ (z : ℕ). i < z) long less in
    let up : (p : ℕ) → p < length (items_of o) → 1 ≤ phase_at o p = up_left key s k id w here bare_w (λ j u at ne. (c.idle j u at ne).own) in
    let r = covered (suc i) o ws o.taken (o.taken + i) (omega arith) lawful sh (omega arith) lawful.stop (omega arith) (λ p later to. up p (omega arith)) in
    let from : ℕ = r.0 in let end : ℕ = r.1 in let not_before = r.2 in let up_to = r.3 in let over = r.4 in let first : ℕ = from - t in let past : ℕ = end - t in
    let begins : t + first ≡ from = omega arith in let ends : t + past ≡ end = omega arith in
    let m : mark_left left first ≡ 2 * end = (λ j. get_or (words j) (mark_word ((rooms ∙ sym k.room) j) (start j + first)) 0) ∙ (ap (λ (z : ℕ). get_or ws (mark_word o.room z) 0) begins ∙ r.5) in
    (first, past, omega arith, omega arith, leads left.start first past (mark_left left first) from end (ap (λ (z : ℕ). z + first) start ∙ begins) (ap (λ (z : ℕ). z + past) start ∙ ends) (omega arith) m)
