-- A taking: what was taken is in the buffer, and its places are given back.
use Rattle.batch_queue.proofs.Common.{BatchState, Cell, EndRecord, List, Performed, Me, Released, Step, View, [], ap, append_assoc, arith, cells, change, drop, inl, inr, items_of, length, load, tail_word, with_taken, ⊎_elim, ◌⊎◌, map, map-append, mark_word, no_slots, positions_of, refl, subst, suc, sym, take, taking, with_no_slots, with_back, with_taking, zero, ℕ, ◌++◌, ◌+◌, ◌∙◌, ◌∷◌, ◌≡◌}
use Rattle.std.proofs.Math.Seq.{take-append_seam}
use Rattle.std.specs.Prelude.{min}
use Rattle.table_theory.proofs.Moments.{two_map, two_then}
use Rattle.table_theory.proofs.Parting.{made_on}
use Rattle.table_theory.specs.Ledgers.{ExtendsTrace}
use Rattle.batch_queue.specs.Client.{TookAllThatFit, WereFirst}
use Rattle.batch_queue.specs.Moments.{AtTwoMoments}
use Rattle.batch_queue.specs.Object.{NoneFits}
use Rattle.table_theory.specs.Positioned.{item_of}
use Rattle.table_theory.specs.declared.views.Part.{Part}
use Rattle.table_theory.specs.Batches.{line_of}
use Rattle.batch_queue.specs.Lines.{TookLine}
use Rattle.batch_queue.specs.Slots.{slots_of, value_of}
use Rattle.batch_queue.specs.Takings.{AreFirst, FilledBuffer, HasTaken, TookBatches, with_line}
use Rattle.batch_queue.proofs.Turning.{slots_values}

-- the slots are given back, and the end has one line more
line_own : (d c : EndRecord) (o : BatchState) (n : ℕ) → c ≡ with_taking d o n → d.held ≡ no_slots → with_no_slots c ≡ with_line d o n
line_own d c o n is bare = λ i. record { runs = (is i).runs; takes = (is i).takes; shuts = (is i).shuts; parts = (is i).parts; held = sym bare i }

pub took_of : (room most tail count : ℕ) (items : List ℕ) (v w : View) (m m' : Me ℕ View) → v.own.held ≡ no_slots → HasTaken room most v tail items m → w ≡ m.0 → count ≡ length items → Released w (mark_word room tail) tail (tail + count) 2 m' → TookBatches room v most items m'.0
took_of room most tail count items v w m m' bare h same many p = let t = h.taken in let o : BatchState = t.at_taking.object in let end : ℕ → Step BatchState = (λ z. change (mark_word room tail) p.found p.at (with_back p.at.object tail (tail + z))) in (
  tail,
  p.found,
  p.at,
  record {
    some_item = t.some_item;
    within = t.within;
    at_tail = t.at_tail;
    loads = t.loads;
    followed = t.followed;
    at_taking = t.at_taking;
    first = t.first;
    added = let all = made_on v m.0 m'.0 _ (end (length items) ∷ []) (with_taking v.own o (length items)) p.own t.added
        (subst (λ (z : ℕ). Performed m.0 (end z ∷ []) p.own m'.0) many (subst (λ (z : View). Performed z (end count ∷ []) p.own m'.0) same p.step.made)) in record {
          adds = all.adds;
          did = all.did ∙ (p.given refl ∙ line_own v.own w.own o (length items) (ap (λ (z : View). z.own) same ∙ t.added.did) bare);
          member = all.member;
        };
  },
)

-- THE LINE

pub items_of_cells : (xs ps : List ℕ) → map item_of (cells xs ps) ≡ xs
items_of_cells [] ps = refl
items_of_cells (x ∷ xs) [] = ap (λ (z : List ℕ). x ∷ z) (items_of_cells xs [])
items_of_cells (x ∷ xs) (zero ∷ ps) = ap (λ (z : List ℕ). x ∷ z) (items_of_cells xs ps)
items_of_cells (x ∷ xs) (suc p ∷ ps) = ap (λ (z : List ℕ). x ∷ z) (items_of_cells xs ps)

front_items : (cs : List Cell) (n : ℕ) → map item_of (take n cs) ≡ take n (map item_of cs)
front_items [] zero = refl
front_items [] (suc n) = refl
front_items (c ∷ cs) zero = refl
front_items (c ∷ cs) (suc n) = ap (λ (z : List ℕ). c.item ∷ z) (front_items cs n)

pub part_items : (cs : List Cell) (a n : ℕ) → map item_of (take n (drop a cs)) ≡ take n (drop a (map item_of cs))
part_items [] zero zero = refl
part_items [] zero (suc n) = refl
part_items [] (suc a) zero = refl
part_items [] (suc a) (suc n) = refl
part_items (c ∷ cs) zero zero = refl
part_items (c ∷ cs) zero (suc n) = ap (λ (z : List ℕ). c.item ∷ z) (front_items cs n)
part_items (c ∷ cs) (suc a) n = part_items cs a n

line_is : (o : BatchState) (items : List ℕ) → AreFirst o items → line_of (taking (positions_of o) (length items)) ≡ items
line_is o items f =
    part_items (cells (items_of o) o.phases) o.taken (length items)
    ∙ (ap (λ (z : List ℕ). take (length items) (drop o.taken z)) (items_of_cells (items_of o) o.phases) ∙ f.items_are)

pub took_line : (room most : ℕ) (items : List ℕ) (v w : View) → TookBatches room v most items w → TookLine items v w
took_line room most items v w (tail, mark, m, t) = let made = t.added in let o : BatchState = t.at_taking.object in (
  record {
    puts = (λ k. map line_of (made.did k).runs);
    takes = (λ k. map line_of (made.did k).takes) ∙ (map-append line_of v.own.takes (taking (positions_of o) (length items) ∷ []) ∙ (λ k. map line_of v.own.takes ++ line_is o items t.first k ∷ []));
    share = ap (λ (z : Part). z.share) made.member;
  },
  λ k. (made.did k).parts,
)

-- THE BUFFER

pub read_is : (room tail count : ℕ) (items old new : List ℕ) (c : List (ℕ × ℕ)) → c ≡ slots_of room tail items → new ≡ map value_of c ++ drop count old → new ≡ items ++ drop count old
read_is room tail count items old new c is read = read ∙ ap (λ (z : List ℕ). z ++ drop count old) (ap (map value_of) is ∙ slots_values room tail items)

pub took_first : (room most count : ℕ) (items old new : List ℕ) (v w : View) → count ≡ length items → new ≡ items ++ drop count old → TookBatches room v most items w → TookBatches room v most (take count new) w
took_first room most count items old new v w many is t = subst (λ (z : List ℕ). TookBatches room v most z w) (sym ((λ i. take (many i) (is i)) ∙ take-append_seam items (drop count old))) t

pub filled : (room most count : ℕ) (items old new : List ℕ) (v w : View) → count ≡ length items → new ≡ items ++ drop count old → (t : TookBatches room v most items w) → FilledBuffer count old new v w
filled room most count items old new v w many is t = record { line = items; some_item = (let s = t.3.some_item in omega arith); long = sym many; buffer = is; took = took_line room most items v w t }

-- THE MOMENT OF THE TAKING

pub were_first : (room most : ℕ) (items : List ℕ) (v w : View) → TookBatches room v most items w → WereFirst v items w
were_first room most items v w (tail, mark, m, t) = let e : Step BatchState = change tail_word tail t.at_taking (with_taken t.at_taking.object (tail + length items)) in let back : Step BatchState = change (mark_word room tail) mark m (with_back m.object tail (tail + length items)) in let first : Step BatchState = load tail_word tail t.at_tail in record {
  before = first ∷ t.loads;
  step = e;
  after = back ∷ [];
  adds = subst (λ (z : List (Step BatchState)). ExtendsTrace v z w) (ap (λ (z : List (Step BatchState)). first ∷ z) (append_assoc t.loads (e ∷ []) (back ∷ []))) t.added.adds;
  holds = (t.first, t.added.did);
}

-- no batch more fitted, and then the places were given back
pub fit_all : (room most n tail : ℕ) (v w u : View) (m' : Me ℕ View) → v.own.held ≡ no_slots → u.member.share ≡ v.member.share → w ≡ u → Released w (mark_word room tail) tail (tail + n) 2 m'
    → (n ≡ min most room) ⊎ AtTwoMoments v u (λ o later. (o.taken ≡ later.taken) × NoneFits o (later.taken + n) (later.taken + min most room) × (u.own ≡ with_taking v.own later n)) → TookAllThatFit v room most n m'.0
fit_all room most n tail v w u m' bare share same p h = let e : Step BatchState = change (mark_word room tail) p.found p.at (with_back p.at.object tail (tail + n)) in ⊎_elim
    (λ full. inl full)
    (λ s. inr (two_map v m'.0 _ _ (λ o later t. (t.0, t.1, p.step.made.did ∙ (p.given refl ∙ line_own v.own w.own later n (ap (λ (z : View). z.own) same ∙ t.2) bare)))
    (two_then v u m'.0 (e ∷ []) _ share s (subst (λ (z : View). ExtendsTrace z (e ∷ []) m'.0) same p.step.made.adds))))
    h
