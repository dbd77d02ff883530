-- The facts known when a chain closes, and the numbers read from it.
use Rattle.proc_chain.proofs.Common.{◌≡◌, ◌≢◌, ℕ, zero, suc, ◌+◌, ◌-◌, ◌%◌, ◌<◌, ◌≤◌, Bool, false, true≢false, eq-eqb, ne_eqb, Option, Some, None, List, [], ◌∷◌, map, length, get_or, set, sym, refl, ap, ◌∙◌, subst, arith, length-append, if◌then◌else◌, dite, ℕ_discrete, dec_lt, get_elem?, Cell, Batch, Positions, QueueView, blank, stage_at, head_of, Owned, ViewsShow, AllRaised, all_places, runs_of, AbsState, grows_refl, at_map, one_at, State, ChainOps, GatedQueue, Shape, place_word, note_in, mark_in, WordsShow, notes_of, View, nothing_did, part_of, Rule, Rests, left_at, left_from, head_word, tail_word, ends_word}
use Rattle.std.proofs.lemmas.List.{get_or_append_left, get_or-append_right}
use mathlib.Core.Option as maybe
use Rattle.table_theory.specs.Ledgers.{IsIdle, Tallied}
use Rattle.table_theory.proofs.Stepping.{closes as ends_close}
use Rattle.table_theory.proofs.Listing.{listed_look, listed_sole, first_seen}
use Rattle.table_theory.proofs.Reading.{read_word}
use Rattle.table_theory.proofs.Owned.{at_map_back}
use Rattle.atomic_table.specs.Table.{Final, Seen}
use Rattle.proc_chain.specs.Layout.{note_of, mark_of}
use Rattle.proc_chain.specs.Closings.{ClosedNow}

-- what is read

pub read_some : (ws : List ℕ) (p u word mark note : ℕ) → u ≡ place_word p → get_elem? ws u ≡ maybe.some word → mark ≡ mark_of word → note ≡ note_of word → mark ≡ p + 1 → Some note ≡ left_at ws p
read_some ws p u word mark note at w m n is = let r = ap (λ (z : ℕ). get_or ws z 0) (sym at) ∙ read_word ws u word w in
    ap Some (n ∙ ap note_of (sym r)) ∙ sym (ap (λ (b : Bool). if b then Some (note_in ws (p % 32)) else None) (eq-eqb (mark_in ws (p % 32)) (p + 1) (ap mark_of r ∙ (sym m ∙ is))))

pub read_none : (ws : List ℕ) (p u word mark : ℕ) → u ≡ place_word p → get_elem? ws u ≡ maybe.some word → mark ≡ mark_of word → mark ≢ p + 1 → None ≡ left_at ws p
read_none ws p u word mark at w m is = let r = ap (λ (z : ℕ). get_or ws z 0) (sym at) ∙ read_word ws u word w in
    sym (ap (λ (b : Bool). if b then Some (note_in ws (p % 32)) else None) (ne_eqb (mark_in ws (p % 32)) (p + 1) (λ e. is (m ∙ (ap mark_of (sym r) ∙ e)))))

-- the head is at most 32 past the tail and not before it, and is below 2^32; the tail is not before the first position
pub record Spans (first tail head : ℕ) : Type 0 where
  pub started : first ≤ tail
  pub taken_within : tail ≤ head
  pub within : head ≤ tail + 32
  pub bounded : head < 4294967296

-- if there is one slot and it was emptied, no slot is filled
pub emptied_slot : (before after : List Bool) (count k : ℕ) → after ≡ set before 0 false → count ≡ 1 → k < count → get_or after k false ≡ false
emptied_slot [] after count k is one below = ap (λ (z : List Bool). get_or z k false) is
emptied_slot (x ∷ xs) after count zero is one below = ap (λ (z : List Bool). get_or z 0 false) is
emptied_slot (x ∷ xs) after count (suc k) is one below = absurd (omega arith)

-- all places of a log are raised if the places of its entries are
flat_raised : (log : List (Owned Batch)) → ((k : ℕ) (o : Owned Batch) → get_elem? log k ≡ maybe.some o → (i : ℕ) → i < length o.2.places → 2 ≤ (get_or o.2.places i blank).stage) → (i : ℕ) → i < length (all_places log) → 2 ≤ (get_or (all_places log) i blank).stage
flat_raised [] h i b = absurd (omega arith)
flat_raised (o ∷ os) h i b = let n : ℕ = length o.2.places in let long = length-append o.2.places (all_places os) in dite (dec_lt i n)
    (λ y. subst (λ (z : Cell). 2 ≤ z.stage) (sym (get_or_append_left o.2.places (all_places os) blank i y)) (h 0 o refl i y))
    (λ no. let e = get_or-append_right o.2.places (all_places os) n i blank refl (omega arith) in subst (λ (z : Cell). 2 ≤ z.stage) (sym e) (flat_raised os (λ k. h (suc k)) (i - n) (omega arith)))

module _ {Q W : Type 0} (made : W → Q → List ℕ → Type 0) (fits : W → Q → Type 0) (key : Shape W) where
  whole_closes : (id : ℕ) (w : View) (s : State Q View) (k : Rule made fits key s) (xs : List Q) (x : Q) → get_elem? s.views id ≡ maybe.some w → ((i : ℕ) (u : View) → get_elem? s.views i ≡ maybe.some u → i ≢ id → IsIdle nothing_did u) → w.own.runner ≡ false → w.own.owes ≡ false → AllRaised w.own.runs
      → ((i : ℕ) (y : Q) → get_elem? s.homes i ≡ maybe.some (maybe.some y) → get_elem? xs i ≡ maybe.some y) → get_elem? xs 0 ≡ maybe.some x
      → made key.pact x (notes_of k.now.object.queue) × fits key.pact x × (k.now.object.queue.taken ≡ length k.now.object.queue.places)
  whole_closes id w s k xs x at idle runner owes all home has =
      let still : (j : ℕ) (u : View) → get_elem? s.views j ≡ maybe.some u → (u.own.runner ≡ false) × (u.own.owes ≡ false) = λ j u at_u. dite (ℕ_discrete j id)
      (λ same. let is : u ≡ w = one_at s.views id u w (subst (λ (z : ℕ). get_elem? s.views z ≡ maybe.some u) same at_u) at in (ap (λ (z : View). z.own.runner) is ∙ runner, ap (λ (z : View). z.own.owes) is ∙ owes))
      (λ ne. let i = idle j u at_u ne in (ap (λ (z : ChainOps). z.runner) i.own, ap (λ (z : ChainOps). z.owes) i.own)) in
      let down : k.now.object.gate ≡ 0 = dite (ℕ_discrete (k.now.object.gate) 0) (λ y. y) (λ up. let r = k.gate.runs up in absurd (true≢false (sym r.runner ∙ (still r.number r.view r.is_view).0))) in
      let h = k.slot.home down in
      let is : h.0 ≡ x = maybe.some-injective h.0 x (sym (home 0 h.0 (subst (λ (z : List (maybe.Option Q)). get_elem? z 0 ≡ maybe.some (maybe.some h.0)) (sym h.1) refl)) ∙ has) in
      let raised : (i : ℕ) → i < length k.now.object.queue.places → 2 ≤ stage_at k.now.object.queue i = subst (λ (z : List Cell). (i : ℕ) → i < length z → 2 ≤ (get_or z i blank).stage) k.listed.lists.runs_are.flat
      (flat_raised k.listed.lists.runs (λ m o at_o. let st = k.listed.lists.runs_are.filed.stands m o at_o in let b = at_map_back runs_of (map part_of s.views) o.0 st.0 st.1 in let d = at_map_back part_of s.views o.0 b.0 b.1 in
      dite (ℕ_discrete o.0 id)
      (λ same. let is_w : d.0 ≡ w = one_at s.views id d.0 w (subst (λ (z : ℕ). get_elem? s.views z ≡ maybe.some d.0) same d.1) at in
      let l : st.0 ≡ w.own.runs = sym b.2 ∙ (ap (λ (z : QueueView). z.runs) (sym d.2) ∙ ap (λ (z : View). z.own.runs) is_w) in all o.1 o.2 (subst (λ (z : List Batch). get_elem? z o.1 ≡ maybe.some o.2) l st.2))
      (λ ne. let l : st.0 ≡ [] = sym b.2 ∙ (ap (λ (z : QueueView). z.runs) (sym d.2) ∙ ap (λ (z : ChainOps). z.runs) (idle o.0 d.0 d.1 ne).own) in absurd (maybe.some-ne-none o.2 (sym (subst (λ (z : List Batch). get_elem? z o.1 ≡ maybe.some o.2) l st.2)))))) in
      let following = k.stands.lawful.0.taken_within in
      let none_left : k.now.object.queue.taken ≡ length k.now.object.queue.places = dite (dec_lt k.now.object.queue.taken (length k.now.object.queue.places)) (λ y. let o = k.gate.idle down (raised k.now.object.queue.taken y) in absurd (true≢false (sym o.owes ∙ (still o.owner o.view o.is_view).1))) (λ no. omega arith) in
      (subst (λ (z : Q). made key.pact z (notes_of k.now.object.queue)) is h.2, subst (fits key.pact) is h.3, none_left)

  -- the tail and the head that are read of a closed chain
  pub spans : (id h t : ℕ) (w : View) (ws : List ℕ) (xs : List Q) → Final (Seen (Rule made fits key) id w) ws xs → get_elem? ws head_word ≡ maybe.some h → get_elem? ws tail_word ≡ maybe.some t → Spans key.first t h
  spans id h t w ws xs fin at_h at_t = let k = fin.1.0 in let q : Positions = k.now.object.queue in let sh : WordsShow q ws = subst (WordsShow q) fin.2 k.stands.shows.0 in
      let hd : h ≡ head_of q = sym (read_word ws head_word h at_h) ∙ sh.head in let tl : t ≡ q.first + q.taken = sym (read_word ws tail_word t at_t) ∙ sh.tail in let following = k.stands.lawful.0.taken_within in let within = k.stands.lawful.0.within in let room = sh.room in let low = sh.bounded in let first = k.first in
      record { started = omega arith; taken_within = omega arith; within = omega arith; bounded = omega arith }

  pub closes : (v w : View) (found id h t put taken at : ℕ) (ws : List ℕ) (xs : List Q) (x : Q) (left : List (Option ℕ)) → key.first ≡ at → Rests v → Tallied ends_word v found w → found ≡ 1 → v.own.runner ≡ false
      → Final (Seen (Rule made fits key) id w) ws xs → get_elem? ws head_word ≡ maybe.some h → get_elem? ws tail_word ≡ maybe.some t → get_elem? xs 0 ≡ maybe.some x → put ≡ h - key.first → taken ≡ t - key.first → left ≡ left_from ws t (h - t) → ClosedNow (made key.pact) (fits key.pact) v at put taken left x
  closes v w found id h t put taken at ws xs x left at_is rests tallied one runner fin at_h at_t at_x put_is taken_is left_is =
      let s : State Q View = fin.0 in let k = fin.1.0 in let at_w = fin.1.1 in let q : Positions = k.now.object.queue in let sh : WordsShow q ws = subst (WordsShow q) fin.2 k.stands.shows.0 in
      let first = k.first in let hd : h ≡ head_of q = sym (read_word ws head_word h at_h) ∙ sh.head in let tl : t ≡ q.first + q.taken = sym (read_word ws tail_word t at_t) ∙ sh.tail in
      let puts : put ≡ length q.places = omega arith in let takes_is : taken ≡ q.taken = omega arith in
      let cl = ends_close k.stands id v w at_w ends_word found tallied one rests.one in let did = tallied.made.did in
      let c = whole_closes id w s k xs x at_w cl.idle (ap (λ (z : ChainOps). z.runner) did ∙ runner) (ap (λ (z : ChainOps). z.owes) did ∙ rests.settled) (subst AllRaised (sym (ap (λ (z : ChainOps). z.runs) did)) rests.raised) fin.4 at_x in
      let all_taken : q.taken ≡ length q.places = c.2 in let none : h - t ≡ 0 = omega arith in
      let sole : ViewsShow q (part_of w ∷ []) = record {
        lists = listed_sole q (map part_of s.views) id (part_of w) k.listed.lists (at_map part_of s.views id w at_w) (λ i u has ne. let b = at_map_back part_of s.views i u has in
            subst (λ (z : QueueView). (z.runs ≡ []) × (z.takes ≡ [])) b.2 (ap (λ (z : ChainOps). z.runs) (cl.idle i b.0 b.1 ne).own, ap (λ (z : ChainOps). z.takes) (cl.idle i b.0 b.1 ne).own));
        seen = first_seen q (part_of w) (k.listed.seen id (part_of w) (at_map part_of s.views id w at_w));
      } in
      let listed : ViewsShow q (record (part_of v) { queue = q } ∷ []) = listed_look q (part_of w ∷ []) 0 (part_of w) (record (part_of v) { queue = q }) sole refl (ap (λ (z : ChainOps). z.runs) (sym did)) (ap (λ (z : ChainOps). z.takes) (sym did)) (grows_refl q) in
      let P : AbsState GatedQueue → Type 0 = λ m. ViewsShow m.object.queue (record (part_of v) { queue = m.object.queue } ∷ []) × (m.object.queue.first ≡ at) × (put ≡ length m.object.queue.places) × (taken ≡ m.object.queue.taken) × made key.pact x (notes_of m.object.queue) in
      let p : P v.seen = subst P cl.now_is (listed, first ∙ at_is, puts, takes_is, c.0) in record {
        whole = cl.whole;
        listed = p.0;
        sole = cl.sole;
        joined = cl.joined;
        starts = p.1;
        puts = p.2;
        taken_is = p.3;
        all_taken = omega arith;
        none_left = left_is ∙ ap (left_from ws t) none;
        home = (p.4, c.1);
      }
