-- The steps that make, split, join and count ends keep the rule.
use Rattle.proc_chain.specs.Layout.{width, place_word}
use Rattle.proc_chain.proofs.Common.{◌≡◌, ◌≢◌, ℕ, ◌+◌, ◌-◌, ◌<◌, ◌≤◌, ◌%◌, inl, ⊎_elim, Bool, true, false, ◌||◌, ◌&&◌, List, [], ◌∷◌, ◌++◌, map, get_or, set, sym, refl, ap, ◌∙◌, subst, arith, true≢false, map-set, map-append, some, none, some-ne-none, get_elem?, State, Me, step, Allows, Splits, Joins, at_map, set_here, set_else, Positions, QueueView, rest_without, newborn_with, both, emptied, ViewsShow, Grows, spot, listed_new, listed_join, at_push, at_below, grows_refl, GatedQueue, Shape, note_in, mark_in, Shows, first_queue, IsLawful, View, nothing_did, did_both, of_chains, part_of, AreShown, Rule, IsValidChainView, view_from, head_word, tail_word, ends_word, FIRST_PLACE}
use Rattle.table_theory.specs.Sharing.{IsPortion}
use Rattle.std.proofs.Common.{replicate, get_or-set_other}
use Rattle.std.proofs.lemmas.List.{get_or-replicate}
use Rattle.atomic_table.specs.Table.{opening}
use Rattle.table_theory.specs.Ledgers.{opened}
use Rattle.table_theory.specs.Plays.{counts}
use Rattle.table_theory.proofs.Stepping.{counted_up, counted_down, tallied_now, stands_split, stands_join, stands_first, leads}
use Rattle.table_theory.proofs.Tables as tables
use Rattle.table_theory.specs.Windows.{PlacesShow}
use Rattle.table_theory.proofs.Latest.{both_leads}
use Rattle.table_theory.proofs.Listing.{listed_look, listed_first}
use Rattle.proc_chain.specs.Changes.{empty_from}
use Rattle.proc_chain.specs.Rules.{newcomer}
use Rattle.proc_chain.specs.Steps.{counts_up, counts_down, HasTallied}
use Rattle.proc_chain.proofs.Becoming.{reaches_grow}
use Rattle.proc_chain.proofs.Events.{and_false}
use Rattle.proc_chain.proofs.Gates.{not_true, owed_on, covers_more, gated_same, gated_none, gated_new}
use Rattle.proc_chain.proofs.Stepping.{undoubled_set, settled_look, table, after_reported, meets}

undoubled_new : (views : List View) (w : View) → ((j : ℕ) (u : View) → get_elem? views j ≡ some u → u.own.doubled ≡ false) → w.own.doubled ≡ false → (j : ℕ) (u : View) → get_elem? (views ++ w ∷ []) j ≡ some u → u.own.doubled ≡ false
undoubled_new views w old own j u has = ⊎_elim (λ t. old j u t) (λ t. ap (λ (z : View). z.own.doubled) (sym t.1) ∙ own) (at_push views w u j has)

none_doubled : (a b c d : Bool) → a ≡ false → b ≡ false → d ≡ false → (a || b || (c && d)) ≡ false
none_doubled a b c d x y z = (λ i. x i || y i || (c && z i)) ∙ and_false c

-- a word is nothing at first that is none of these
zeros : (f j : ℕ) → j ≢ head_word → j ≢ tail_word → j ≢ ends_word → j < width → get_or (set (set (set (replicate width 0) head_word f) tail_word f) ends_word 1) j 0 ≡ 0
zeros f j a b c to = let zs : List ℕ = replicate width 0 in let hs : List ℕ = set zs head_word f in
    get_or-set_other (set hs tail_word f) ends_word j 1 0 c ∙ (get_or-set_other hs tail_word j f 0 b ∙ (get_or-set_other zs head_word j f 0 a ∙ get_or-replicate width j 0 0 (omega arith)))

-- the views after a split
pub rest_shown : (o : GatedQueue) (views : List View) (id : ℕ) (v : View) (parts : ℕ) → AreShown o views → get_elem? views id ≡ some v → AreShown o (set views id (rest_without parts v))
rest_shown o views id v parts h at = let left : View = rest_without parts v in record {
  listed = subst (ViewsShow o.queue) (sym (map-set part_of views id left)) (listed_look o.queue (map part_of views) id (part_of v) (part_of v) h.listed (at_map part_of views id v at) refl refl (h.listed.seen id (part_of v) (at_map part_of views id v at)));
  gate = gated_same o.queue o.queue o.gate views id v left h.gate at refl refl (λ r. h.gate.takes id v at r) (λ _. refl) (λ x. inl x) (settled_look o.queue views id v left at refl refl);
}

pub newborn_shown : (o : GatedQueue) (views : List View) (id : ℕ) (v : View) (parts : ℕ) → AreShown o views → get_elem? views id ≡ some v → AreShown o (set views id (rest_without parts v) ++ newborn_with parts nothing_did v ∷ [])
newborn_shown o views id v parts h at = let left : View = rest_without parts v in let right : View = newborn_with parts nothing_did v in let r = rest_shown o views id v parts h at in record {
  listed = subst (ViewsShow o.queue) (sym (map-append part_of (set views id left) (right ∷ []))) (listed_new o.queue (map part_of (set views id left)) (part_of right) r.listed refl refl (h.listed.seen id (part_of v) (at_map part_of views id v at)));
  gate = gated_new o.queue o.gate (set views id left) right r.gate refl;
}

-- the view of the first end
first_shown : (first : ℕ) → AreShown (first_queue first) (view_from first ∷ [])
first_shown first = let w : View = view_from first in record { listed = listed_first (empty_from first) (part_of w) refl refl refl refl (grows_refl (empty_from first)); gate = gated_new (empty_from first) 0 [] w (gated_none (empty_from first) [] (λ j u has. absurd (some-ne-none u (sym has))) (λ h. absurd (omega arith))) refl }

first_lawful : (first : ℕ) → IsLawful (first_queue first)
first_lawful first = (record { taken_within = omega arith; within = omega arith; ready = λ i h. absurd (omega arith) }, omega arith)

pub first_reported : (first : ℕ) → first < 4294967296 → IsValidChainView (view_from first)
first_reported first bounded = record {
  honest = record { leads = refl; real = tt; own = tt };
  lawful = first_lawful first;
  room = refl;
  bounded = omega arith;
  views = view_from first ∷ [];
  shown = first_shown first;
  seat = 0;
  here = refl;
}

module _ {Q W : Type 0} (made : W → Q → List ℕ → Type 0) (fits : W → Q → Type 0) (key : Shape W) where
  abbrev R : State Q View → Type 0
  R = Rule made fits key

  module _ (n id : ℕ) (me : Me Q View) where
    pub ups : me.0.member.ends + 1 ≤ me.0.member.share → Allows R n id me ends_word (λ x. (x + 1) % 18446744073709551616) (counts_up (step n ends_word 1 0 none) me)
    ups parts = tables.ups (table made fits key) n id me (counts_up (step n ends_word 1 0 none) me) parts (λ s k at b. ((refl, after_reported made fits key s _ id me.0 _ at b.0 b.1), counted_up k.stands id me.0 at, meets made fits key s k id me.0 at))

    pub downs : 2 ≤ me.0.member.ends → Allows R n id me ends_word (λ x. (x + (18446744073709551616 - 1)) % 18446744073709551616) (counts_down (step n ends_word 1 0 none) me)
    downs live = tables.downs (table made fits key) n id me (counts_down (step n ends_word 1 0 none) me) live (λ s k at b. ((refl, after_reported made fits key s _ id me.0 _ at b.0 b.1), counted_down k.stands id me.0 at, meets made fits key s k id me.0 at, k.undoubled id me.0 at))

    pub tallies : me.0.member.ends ≡ 1 → Allows R n id me ends_word (λ x. x) (counts HasTallied (step n ends_word 0 0 none) me)
    tallies one = tables.looks (table made fits key) n id me (counts HasTallied (step n ends_word 0 0 none) me) ends_word (omega arith) (λ s k at b. (refl, (after_reported made fits key s _ id me.0 _ at b.0 b.1, tallied_now k.stands id me.0 at one, meets made fits key s k id me.0 at)))

  pub splits : (id : ℕ) (v : View) (parts : ℕ) → (2 ≤ v.member.share → IsPortion parts v.member.share) → v.member.ends ≡ 2 → Splits R id v (rest_without parts v) (newborn_with parts nothing_did v)
  splits id v parts fits two s k at = let both_shown = newborn_shown k.now.object s.views id v parts record { listed = k.listed; gate = k.gate } at in record {
    now = k.now;
    stands = stands_split k.stands id v at parts fits two;
    first = k.first;
    listed = both_shown.listed;
    gate = both_shown.gate;
    slot = k.slot;
    undoubled = undoubled_new (set s.views id (rest_without parts v)) (newborn_with parts nothing_did v) (undoubled_set s.views id (rest_without parts v) k.undoubled (k.undoubled id v at)) refl;
  }

  pub joins : (id other : ℕ) (v w : View) → 1 ≤ v.member.ends → (w.own.runner ≡ true → v.own.runner ≡ true) → w.own.owes ≡ false → Joins R id v other w (both did_both v w) (emptied nothing_did v)
  joins id other v w live turns ow s k at ne has = let o : GatedQueue = k.now.object in let q : Positions = o.queue in let b : View = both did_both v w in let x : View = emptied nothing_did v in let at' : get_elem? s.views other ≡ some w = sym (set_else s.views id other b ne) ∙ has in
      let r : w.own.runner ≡ false = not_true w.own.runner (λ up. ne (k.gate.sole other id w v at' at up (turns up))) in
      let later = k.listed.seen id (part_of v) (at_map part_of s.views id v at) in let stands = stands_join k.stands id v at did_both other w at' ne live in
      let sees : Grows b.seen.object.queue q = reaches_grow b.seen k.now (leads stands id b (set_else (set s.views id b) other id x (λ e. ne (sym e)) ∙ set_here s.views id b (at_below s.views id v at))) in
      let taken : v.own.runner ≡ true → b.seen.object.queue.taken ≡ q.taken = (λ t. (let g = reaches_grow v.seen b.seen (both_leads of_chains nothing_did did_both (first_queue key.first) k.now s.views id other v w k.stands.true_ends at at') in let a = k.gate.takes id v at t in let further = g.further in let more = sees.further in omega arith)) in
      let g = gated_same q q o.gate s.views id v b k.gate at refl refl taken (λ _. refl) (λ h. inl h) (λ st up. owed_on q q s.views id v b at (st up) refl (λ h. h) (λ _. covers_more v b w.own.runs refl)) in record {
        now = k.now;
        stands = stands;
        first = k.first;
        listed = subst (ViewsShow q) (sym (map-set part_of (set s.views id b) other x ∙ ap (λ (z : List QueueView). set z other (part_of x)) (map-set part_of s.views id b)))
            (listed_join q (map part_of s.views) id other (part_of v) (part_of w) (part_of b) (part_of x) k.listed (at_map part_of s.views id v at) (at_map part_of s.views other w at') ne refl refl refl refl sees later);
        gate = gated_same q q o.gate (set s.views id b) other w x g has (sym r) refl (λ h. absurd (true≢false (sym h))) (λ h. absurd (true≢false (sym h))) (λ h. absurd (true≢false (sym h)))
            (λ st up. owed_on q q (set s.views id b) other w x has (st up) refl (λ h. absurd (true≢false (sym h ∙ ow))) (λ h. absurd (true≢false (sym h ∙ ow))));
        slot = k.slot;
        undoubled = undoubled_set (set s.views id b) other x (undoubled_set s.views id b k.undoubled (none_doubled v.own.doubled w.own.doubled v.own.runner w.own.runner (k.undoubled id v at) (k.undoubled other w at') r)) refl;
      }

  -- the table as it is made
  pub opens_new : (x : Q) (xs : List Q) → key.first < 4294967296 → xs ≡ x ∷ [] → made key.pact x [] → fits key.pact x → Rule made fits key (opening (set (set (set (replicate width 0) head_word key.first) tail_word key.first) ends_word 1) xs (newcomer key))
  opens_new x xs bounded is is_made is_fit = let first : ℕ = key.first in let words : List ℕ = set (set (set (replicate width 0) head_word first) tail_word first) ends_word 1 in let f : GatedQueue = first_queue first in let w : View = newcomer key in
      let window : PlacesShow f.queue (mark_in words) (note_in words) = record { some_room = omega arith; each = λ i a b. record { low = λ _. (let z = zeros first (spot f.queue i + FIRST_PLACE) (λ e. omega arith) (λ e. omega arith) (λ e. omega arith) (omega arith) in omega arith); up = λ h. absurd (omega arith); holds = λ h. absurd (omega arith) } } in
      let shows : Shows f words = (record { wide = refl; room = refl; is_open = refl; bounded = omega arith; head = omega arith; tail = omega arith; window = window; kept = record { never = λ i a b c. zeros first (place_word (first + i)) (λ e. omega arith) (λ e. omega arith) (λ e. omega arith) (omega arith); last = λ i a. absurd (omega arith) }; unused = λ j u. (let from = u.0 in let to = u.1 in zeros first j (λ e. omega arith) u.2 (λ e. omega arith) (omega arith)) }, refl) in record {
        now = opened f;
        stands = stands_first of_chains nothing_did f words (first_lawful first) shows refl;
        first = refl;
        listed = (first_shown first).listed;
        gate = (first_shown first).gate;
        slot = record { home = λ _. (x, ap (map some) is, is_made, is_fit); held = λ up. absurd (up refl) };
        undoubled = undoubled_new [] w (λ j u has. absurd (some-ne-none u (sym has))) refl;
      }
