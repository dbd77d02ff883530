-- The table as it is made, and the steps that count, make and join ends.
use Rattle.table_theory.specs.Sharing.{IsPortion}
use Rattle.batch_queue.proofs.Common.{parts_of, inl, Allows, Apart, Batch, BatchState, Bool, EndRecord, FIRST_MARK, Grows, Holds, IsEdge, InvHeldOf, IsUsed, Joins, List, Me, OwnShows, Positions, Rule, Shape, Splits, View, [], all_alike, ap, arith, at_joined, at_longer, at_map, at_snoc, both, by_ends, did_both, emptied, empty, ends_word, false, free_word, get_elem?, get_or, get_or-replicate, get_or-set_other, get_or-set_same, head_word, if◌then◌else◌, length, length-replicate, length-set, listed_first, mark_word, mod-lt, nat_lt, newborn_with, newcomer, no_slots, none, nothing_did, of_batches, opened, opening, part_of, positions_of, refl, replicate, rest_without, set, set_else, shuts_of, some, some-injective, some-ne-none, some_there, step, subst, suc, sym, tail_word, true, unused_kept, width, zero, ℕ, ⊎_elim, ◌%◌, ◌++◌, ◌+◌, ◌-◌, ◌<◌, ◌∙◌, ◌∷◌, ◌≡◌, ◌≢◌, ◌≤◌}
use Rattle.table_theory.specs.Plays.{HasTallied, counts, counts_down, counts_up}
use Rattle.table_theory.specs.Positioned as pos
use Rattle.table_theory.proofs.Positioned as positioned
use Rattle.table_theory.proofs.Listing.{split_in, join_in}
use Rattle.table_theory.proofs.Ruling as ruling
use Rattle.table_theory.proofs.Stepping as ends
use Rattle.table_theory.proofs.Tables as tables
use Rattle.table_theory.proofs.Totals.{total_split, total_join}
use Rattle.batch_queue.specs.Rules.{now_of}
use Rattle.batch_queue.proofs.Growing.{grows_refl}
use Rattle.batch_queue.proofs.Owning.{own_bare}
use Rattle.batch_queue.proofs.Stepping.{apart_set, held_by, held_now, ruled_now, table, views_set}

first_edge : IsEdge [] 0
first_edge = record { before = []; rest = []; all = refl; at = refl }

only : (v u : View) (j : ℕ) → get_elem? (v ∷ []) j ≡ some u → (j ≡ 0) × (v ≡ u)
only v u zero e = (refl, some-injective v u e)
only v u (suc j) e = absurd (some-ne-none u (sym e))

no_batch : (before : List (List ℕ)) (b : List ℕ) (rest : List (List ℕ)) → before ++ b ∷ rest ≡ [] → ⊥
no_batch [] b rest e = let l = ap length e in omega arith
no_batch (x ∷ xs) b rest e = let l = ap length e in omega arith

no_batch_at : (m : ℕ) (e : Batch) → get_elem? [] m ≡ some e → ⊥
no_batch_at m e at = some-ne-none e (sym at)

own_nothing : (o : BatchState) → OwnShows o nothing_did
own_nothing o = own_bare o nothing_did (λ m e at. absurd (no_batch_at m e at)) (λ m e at. absurd (no_batch_at m e at)) refl

own_both : (o : BatchState) (c d : EndRecord) → OwnShows o c → OwnShows o d → OwnShows o (did_both c d)
own_both o c d h g = own_bare o (did_both c d) (λ m e at. ⊎_elim (λ t. h.runs m e t) (λ t. g.runs t.0 e t.2) (at_joined c.runs d.runs m e at)) (λ m e at. ⊎_elim (λ t. h.takes m e t) (λ t. g.takes t.0 e t.2) (at_joined c.takes d.takes m e at)) refl

pub opens : (room : ℕ) (zs slots : List ℕ) → zs ≡ replicate (width room) 0 → length slots ≡ room → 0 < room → Rule (record { room = room }) (opening (set zs ends_word 1) slots (newcomer (record { room = room })))
opens room zs slots is many some_room = let key : Shape = record { room = room } in let o : BatchState = empty key in let lz = length-set zs ends_word 1 in let long = ap length is ∙ length-replicate (width room) 0 in
    let word : (i : ℕ) → i ≢ ends_word → i < room + FIRST_MARK → get_or (set zs ends_word 1) i 0 ≡ 0 = λ i ne h. get_or-set_other zs ends_word i 1 0 ne ∙ (ap (λ (z : List ℕ). get_or z i 0) is ∙ get_or-replicate (width room) i 0 0 h) in record {
      now = opened o;
      room = refl;
      stands = ends.stands_first of_batches nothing_did o (set zs ends_word 1)
          record { some_room = some_room; long = refl; mark_each = length-replicate room 0; within = omega arith; before = λ i h. absurd (omega arith); after = λ i h. omega arith; taken_within = λ i h. absurd (omega arith); whole = λ p e b. absurd (no_batch b.before b.batch b.rest b.all); stop = inl first_edge; solid = λ p e b. absurd (no_batch b.before b.batch b.rest b.all); solid_takings = λ p e b. absurd (no_batch b.before b.batch b.rest b.all); stops = λ p e b. absurd (no_batch b.before b.batch b.rest b.all); groups = λ none. record { groups = []; left = []; all = refl; each = refl }; parts = λ p h. absurd (some-ne-none p (sym h.1)); taken_is = refl; items = refl; freed_edge = first_edge }
          record {
            wide = omega arith;
            bounded = omega arith;
            marks_are = λ p. let near : p % room < room = mod-lt p some_room in word (mark_word room p) (λ e. omega arith) (omega arith) ∙ sym (get_or-replicate room (p % room) 0 0 near);
            batch_mark = λ p e b l from up. absurd (no_batch b.before b.batch b.rest b.all);
            rest_mark = λ p h from. absurd (some-ne-none p (sym h.1));
            taking_mark = λ p e b l from up. absurd (no_batch b.before b.batch b.rest b.all);
            unused = unused_kept (IsUsed room) zs ends_word 1 (by_ends refl) (λ j _. ap (λ (z : List ℕ). get_or z j 0) is ∙ all_alike (width room) 0 j);
            head = word head_word (λ e. omega arith) (omega arith);
            tail = word tail_word (λ e. omega arith) (omega arith);
            free = word free_word (λ e. omega arith) (omega arith);
            marks = λ p from to. let near : p % room < room = mod-lt p some_room in let z = word (mark_word room p) (λ e. omega arith) (omega arith) in record { up = λ e i a b. absurd (omega arith); back = λ e i a b. absurd (omega arith); bound = omega arith; whole = λ e l. absurd (omega arith); whole_back = λ e l. absurd (omega arith) };
          }
          (get_or-set_same zs ends_word 1 0 (omega arith));
      listed = listed_first (positions_of o) (part_of (newcomer key)) refl refl refl refl (positioned.grows_refl (positions_of o));
      seen = λ j v e. subst (λ (z : View). Grows z.seen.object o) (only _ v j e).1 (grows_refl o);
      homes = λ p from to. let near : p % room < room = mod-lt p some_room in let home = some_there slots (p % room) (omega arith) in record { free = λ h. home; up = λ h. absurd (omega arith); back = λ h. absurd (omega arith) };
      owns = λ j v e. subst (λ (z : View). OwnShows o z.own) (only _ v j e).1 (own_nothing o);
      shut_once = omega arith;
      parted_once = omega arith;
      apart = λ j k v w ej ek ne i a b. ne ((only _ v j ej).0 ∙ sym (only _ w k ek).0);
      owned = λ i below out. absurd (omega arith);
    }

module _ (key : Shape) (n id : ℕ) (me : Me ℕ View) where
  pub ups : me.0.member.ends + 1 ≤ me.0.member.share → Allows (Rule key) n id me ends_word (λ x. (x + 1) % 18446744073709551616) (counts_up InvHeldOf (step n ends_word 1 0 none) me)
  ups parts = tables.ups (table key) n id me (counts_up InvHeldOf (step n ends_word 1 0 none) me) parts (λ s k at r. ((refl, ruled_now key _ s.homes s id me.0 _ at r), ends.counted_up k.stands id me.0 at))

  pub downs : 2 ≤ me.0.member.ends → Allows (Rule key) n id me ends_word (λ x. (x + (18446744073709551616 - 1)) % 18446744073709551616) (counts_down InvHeldOf (step n ends_word 1 0 none) me)
  downs two = tables.downs (table key) n id me (counts_down InvHeldOf (step n ends_word 1 0 none) me) two (λ s k at r. ((refl, ruled_now key _ s.homes s id me.0 _ at r), ends.counted_down k.stands id me.0 at))

  -- the count is found
  pub tallies : me.0.member.ends ≡ 1 → Allows (Rule key) n id me ends_word (λ x. x) (counts (HasTallied InvHeldOf ends_word) (step n ends_word 0 0 none) me)
  tallies one = tables.looks (table key) n id me (counts (HasTallied InvHeldOf ends_word) (step n ends_word 0 0 none) me) ends_word (omega arith) (λ s k at r. (refl, (ruled_now key _ s.homes s id me.0 _ at r, ends.tallied_now k.stands id me.0 at one)))

owns_in : (o : BatchState) (views : List View) → ((j : ℕ) (v : View) → get_elem? views j ≡ some v → OwnShows o v.own) → (w : View) → OwnShows o w.own → (j : ℕ) (v : View) → get_elem? (views ++ w ∷ []) j ≡ some v → OwnShows o v.own
owns_in o views h w mine j v e = ⊎_elim (λ t. h j v t) (λ t. subst (λ (z : View). OwnShows o z.own) t mine) (at_snoc views w v j e)

-- the new end holds nothing
apart_more : (views : List View) (w : View) → w.own.held ≡ no_slots → Apart views → Apart (views ++ w ∷ [])
apart_more views w bare old j k v u ej ek ne i a b =
    let empty : (z : View) → w ≡ z → Holds z.own.held i → ⊥ = λ z e h. let h' = subst (λ (y : View). Holds y.own.held i) (sym e) h in let c = ap (λ y. y.count) bare in let l = h'.0 in let r = h'.1 in omega arith in
    ⊎_elim (λ tj. ⊎_elim (λ tk. old j k v u tj tk ne i a b) (λ tk. empty u tk b) (at_snoc views w u k ek)) (λ tj. empty v tj a) (at_snoc views w v j ej)

pub splits : (key : Shape) (id : ℕ) (v : View) (parts : ℕ) → (2 ≤ v.member.share → IsPortion parts v.member.share) → v.member.ends ≡ 2 → Splits (Rule key) id v (rest_without parts v) (newborn_with parts nothing_did v)
splits key id v parts fits two s k at = let o : BatchState = k.now.object in let q : Positions = positions_of o in let left : View = rest_without parts v in let right : View = newborn_with parts nothing_did v in let later = k.listed.seen id (part_of v) (at_map part_of s.views id v at) in record {
  now = k.now;
  room = k.room;
  stands = ends.stands_split k.stands id v at parts fits two;
  listed = split_in part_of q s.views id v left right k.listed at refl refl later refl refl later;
  seen = λ j u e. ⊎_elim (λ t. views_set (λ (z : View). Grows z.seen.object o) s.views id left (k.seen id v at) (λ i z h ne. k.seen i z h) j u t) (λ t. subst (λ (z : View). Grows z.seen.object o) t (k.seen id v at)) (at_snoc (set s.views id left) right u j e);
  homes = k.homes;
  owns = owns_in o (set s.views id left) (views_set (λ (z : View). OwnShows o z.own) s.views id left (k.owns id v at) (λ i z h ne. k.owns i z h)) right (own_nothing o);
  shut_once = total_split shuts_of s.views id v left right at refl refl ∙ k.shut_once;
  parted_once = total_split parts_of s.views id v left right at refl refl ∙ k.parted_once;
  apart = apart_more (set s.views id left) right refl (apart_set s.views id left k.apart (λ j u e ne i a b. k.apart j id u v e at ne i a b));
  owned = λ i below out. let h = held_now s.views id i v left at (held_by s.views id i v at (k.owned i below out)) in record { number = h.number; view = h.view; here = at_longer (set s.views id left) (right ∷ []) h.number h.view h.here; in_held = h.in_held };
}

either_of : {A : Type 0} (P : A → Type 0) (b : Bool) (x y : A) → P x → P y → P (if b then y else x)
either_of P true x y p q = q
either_of P false x y p q = p

pub joins : (key : Shape) (id other : ℕ) (v w : View) → 1 ≤ v.member.ends → v.own.held.count ≡ 0 → w.own.held.count ≡ 0 → Joins (Rule key) id v other w (both did_both v w) (emptied nothing_did v)
joins key id other v w live bare bare' s k at ne has = let one : View = both did_both v w in let spent : View = emptied nothing_did v in let o : BatchState = k.now.object in let q : Positions = positions_of o in
    let at' : get_elem? s.views other ≡ some w = sym (set_else s.views id other one ne) ∙ has in
    let one_seen : Grows one.seen.object o = either_of (λ m. Grows m.object o) (nat_lt (length v.course) (length w.course)) v.seen w.seen (k.seen id v at) (k.seen other w at') in
    let gv = k.listed.seen id (part_of v) (at_map part_of s.views id v at) in let gw = k.listed.seen other (part_of w) (at_map part_of s.views other w at') in
    let one_part : pos.Grows (positions_of one.seen.object) q = either_of (λ m. pos.Grows (positions_of m.object) q) (nat_lt (length v.course) (length w.course)) v.seen w.seen gv gw in
    let one_empty : (i : ℕ) → Holds one.own.held i → ⊥ = λ i h. let l = h.0 in let r = h.1 in omega arith in
    record {
      now = k.now;
      room = k.room;
      stands = ends.stands_join k.stands id v at did_both other w at' ne live;
      listed = join_in part_of q s.views id other v w one spent k.listed at at' ne refl refl refl refl one_part gv;
      seen = views_set (λ (z : View). Grows z.seen.object o) (set s.views id one) other spent (k.seen id v at) (λ j u e nj. views_set (λ (z : View). Grows z.seen.object o) s.views id one one_seen (λ i z h ni. k.seen i z h) j u e);
      homes = k.homes;
      owns = views_set (λ (z : View). OwnShows o z.own) (set s.views id one) other spent (own_nothing o) (λ j u e nj. views_set (λ (z : View). OwnShows o z.own) s.views id one (own_both o v.own w.own (k.owns id v at) (k.owns other w at')) (λ i z h ni. k.owns i z h) j u e);
      shut_once = total_join shuts_of s.views id other v w one spent at has refl refl ∙ k.shut_once;
      parted_once = total_join parts_of s.views id other v w one spent at has refl refl ∙ k.parted_once;
      apart = apart_set (set s.views id one) other spent (apart_set s.views id one k.apart (λ j u e nj i a b. one_empty i b)) (λ j u e nj i a b. let l = b.0 in let r = b.1 in omega arith);
      owned = λ i below out. let h = k.owned i below out in
          let not_id : h.number ≢ id = λ e. let same = some-injective h.view v (sym h.here ∙ (ap (get_elem? s.views) e ∙ at)) in let m = subst (λ (z : View). Holds z.own.held i) same h.in_held in let l = m.0 in let r = m.1 in omega arith in
          let not_other : h.number ≢ other = λ e. let same = some-injective h.view w (sym h.here ∙ (ap (get_elem? s.views) e ∙ at')) in let m = subst (λ (z : View). Holds z.own.held i) same h.in_held in let l = m.0 in let r = m.1 in omega arith in
          record { number = h.number; view = h.view; here = set_else (set s.views id one) other h.number spent not_other ∙ (set_else s.views id h.number one not_id ∙ h.here); in_held = h.in_held };
    }

-- the first end is under the rule
pub new_ruled : (room : ℕ) → 0 < room → InvHeldOf (newcomer (record { room = room }))
unfolding opens
new_ruled room some_room = let zs : List ℕ = replicate (width room) 0 in let slots : List ℕ = replicate room 0 in record {
  key = record { room = room };
  state = opening (set zs ends_word 1) slots (newcomer (record { room = room }));
  rule = opens room zs slots refl (length-replicate room 0) some_room;
  number = 0;
  here = refl;
  seen = refl;
}

-- both ends of a split are under the rule
module _ (v : View) (parts : ℕ) (fits : 2 ≤ v.member.share → IsPortion parts v.member.share) (two : v.member.ends ≡ 2) (r : InvHeldOf v) where
  pub rest_ruled : InvHeldOf (rest_without parts v)
  unfolding splits
  rest_ruled = ruling.rest_ruled Rule now_of v (rest_without parts v) (newborn_with parts nothing_did v) (λ key id. splits key id v parts fits two) (λ key id s k at. refl) r refl

  pub born_ruled : InvHeldOf (newborn_with parts nothing_did v)
  unfolding splits
  born_ruled = ruling.born_ruled Rule now_of v (rest_without parts v) (newborn_with parts nothing_did v) (λ key id. splits key id v parts fits two) (λ key id s k at. refl) r refl
