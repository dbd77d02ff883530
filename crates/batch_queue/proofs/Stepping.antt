-- Every step keeps the rule and reports to its end, by the theory of tables.
use Rattle.batch_queue.proofs.Common.{parts_of, Act, Allows, Apart, BatchState, Becomes, EndRecord, Grows, Holds, HomeShows, IsHeld, IsValidView, IsValidStep, InvHeldOf, IsTable, IsUsed, List, MarkSays, Me, AbsState, Option, OwnShows, Rule, Shape, TableInv, State, Stays, Step, Stepped, Valid, View, ViewsShow, WordsShow, ap, arith, at_below, at_set, by_ends, carried_after, change, dec_le, dite, empty, ends_word, finds, free_word, get_elem?, get_or, get_or-set_other, head_word, homes_after, inl, inr, items_of, length, length-set, map, map-set, mark_word, none, nothing_did, of_batches, one_turn, part_of, phase_at, positions_of, refl, set, set_else, set_here, shuts, shuts_of, some, some-injective, step, subst, sym, tail_word, times_shut, total_kept, total_set, unused_kept, ℕ, ℕ_discrete, ⊎_elim, ◌%◌, ◌+◌, ◌<◌, ◌∙◌, ◌≡◌, ◌≢◌, ◌≤◌, ◌⊎◌}
use Rattle.table_theory.proofs.Listing.{look_in}
use Rattle.table_theory.proofs.Ruling as ruling
use Rattle.table_theory.proofs.Stepping as ends
use Rattle.batch_queue.specs.Rules.{now_of}
use Rattle.table_theory.proofs.Tables as tables
use Rattle.table_theory.specs.Positioned as pos
use Rattle.table_theory.proofs.Positioned as positioned
use Rattle.batch_queue.proofs.Growing.{becomes_grows, becomes_lawful, grows_refl, grows_trans}

abbrev pub St : Type 0
St = State ℕ View

pub views_set : (P : View → Type 0) (views : List View) (id : ℕ) (w : View) → P w → ((j : ℕ) (v : View) → get_elem? views j ≡ some v → j ≢ id → P v) → (j : ℕ) (v : View) → get_elem? (set views id w) j ≡ some v → P v
views_set P views id w now others j v e = ⊎_elim (λ t. subst P t.1 now) (λ t. others j v t.1 t.0) (at_set views id j w v e)

pub apart_set : (views : List View) (id : ℕ) (w : View) → Apart views → ((j : ℕ) (v : View) → get_elem? views j ≡ some v → j ≢ id → (i : ℕ) → Holds v.own.held i → Holds w.own.held i → ⊥) → Apart (set views id w)
apart_set views id w old new j k v u ej ek ne i a b =
    ⊎_elim
    (λ tj. ⊎_elim (λ tk. ne (tj.0 ∙ sym tk.0)) (λ tk. new k u tk.1 tk.0 i b (subst (λ (z : View). Holds z.own.held i) (sym tj.1) a)) (at_set views id k w u ek))
    (λ tj. ⊎_elim (λ tk. new j v tj.1 tj.0 i a (subst (λ (z : View). Holds z.own.held i) (sym tk.1) b)) (λ tk. old j k v u tj.1 tk.1 ne i a b) (at_set views id k w u ek))
    (at_set views id j w v ej)

-- another end has the slot of this position in held
pub record HeldElse (views : List View) (id i : ℕ) : Type 0 where
  pub number : ℕ
  pub view : View
  pub here : get_elem? views number ≡ some view
  pub other : number ≢ id
  pub in_held : Holds view.own.held i

-- whoever has it in held is the end itself or another
pub held_by : (views : List View) (id i : ℕ) (v : View) → get_elem? views id ≡ some v → IsHeld views i → Holds v.own.held i ⊎ HeldElse views id i
held_by views id i v at h = dite (ℕ_discrete h.number id)
    (λ e. inl (subst (λ (z : View). Holds z.own.held i) (some-injective h.view v (sym h.here ∙ (ap (get_elem? views) e ∙ at))) h.in_held))
    (λ ne. inr (record { number = h.number; view = h.view; here = h.here; other = ne; in_held = h.in_held }))

pub held_now : (views : List View) (id i : ℕ) (v w : View) → get_elem? views id ≡ some v → Holds w.own.held i ⊎ HeldElse views id i → IsHeld (set views id w) i
held_now views id i v w at h = ⊎_elim
    (λ mine. record { number = id; view = w; here = set_here views id w (at_below views id v at); in_held = mine })
    (λ e. record { number = e.number; view = e.view; here = set_else views id e.number w e.other ∙ e.here; in_held = e.in_held })
    h

pub shows_count : (o : BatchState) (words : List ℕ) (y : ℕ) → WordsShow o words → WordsShow o (set words ends_word y)
shows_count o words y h = record {
  wide = length-set words ends_word y ∙ h.wide;
  bounded = h.bounded;
  head = get_or-set_other words ends_word head_word y 0 (λ e. omega arith) ∙ h.head;
  tail = get_or-set_other words ends_word tail_word y 0 (λ e. omega arith) ∙ h.tail;
  free = get_or-set_other words ends_word free_word y 0 (λ e. omega arith) ∙ h.free;
  marks_are = λ p. get_or-set_other words ends_word (mark_word o.room p) y 0 (λ z. omega arith) ∙ h.marks_are p;
  batch_mark = λ p e b l from up. get_or-set_other words ends_word (mark_word o.room p) y 0 (λ z. omega arith) ∙ h.batch_mark p e b l from up;
  rest_mark = λ p is from. let t = h.rest_mark p is from in (t.0, t.1, get_or-set_other words ends_word (mark_word o.room p) y 0 (λ z. omega arith) ∙ t.2);
  taking_mark = λ p e b l from up. get_or-set_other words ends_word (mark_word o.room p) y 0 (λ z. omega arith) ∙ h.taking_mark p e b l from up;
  unused = unused_kept (IsUsed o.room) words ends_word y (by_ends refl) h.unused;
  marks = λ p from to. subst (MarkSays o p) (sym (get_or-set_other words ends_word (mark_word o.room p) y 0 (λ e. omega arith))) (h.marks p from to);
}

-- the rule after a step that is no event
pub kept : (key : Shape) (s : St) (k : Rule key s) (words : List ℕ) (id number : ℕ) (v w : View) → get_elem? s.views id ≡ some v → w.own ≡ v.own → w.seen ≡ record k.now { ends = number } → TableInv of_batches nothing_did (empty key) (record k.now { ends = number }) words (set s.views id w)
    → (r : Rule key record { words = words; homes = s.homes; views = set s.views id w }) × (w.seen ≡ r.now)
kept key s k words id number v w at own seen stands = (
  record {
    now = record k.now { ends = number };
    room = k.room;
    stands = stands;
    listed = look_in part_of (positions_of k.now.object) s.views id v w k.listed at (λ i. (own i).runs) (λ i. (own i).takes) (subst (λ (z : AbsState BatchState). pos.Grows (positions_of z.object) (positions_of k.now.object)) (sym seen) (positioned.grows_refl (positions_of k.now.object)));
    seen = views_set (λ u. Grows u.seen.object k.now.object) s.views id w (subst (λ (z : AbsState BatchState). Grows z.object k.now.object) (sym seen) (grows_refl k.now.object)) (λ j u e ne. k.seen j u e);
    homes = k.homes;
    owns = views_set (λ u. OwnShows k.now.object u.own) s.views id w (subst (λ (z : EndRecord). OwnShows k.now.object z) (sym own) (k.owns id v at)) (λ j u e ne. k.owns j u e);
    shut_once = total_kept shuts_of s.views id v w at (λ i. (own i).shuts) ∙ k.shut_once;
    parted_once = total_kept parts_of s.views id v w at (λ i. (own i).parts) ∙ k.parted_once;
    apart = apart_set s.views id w k.apart (λ j u e ne i a b. k.apart j id u v e at ne i a (subst (λ (z : EndRecord). Holds z.held i) own b));
    owned = λ i below out. held_now s.views id i v w at (⊎_elim (λ mine. inl (subst (λ (z : EndRecord). Holds z.held i) (sym own) mine)) (λ e. inr e) (held_by s.views id i v at (k.owned i below out)));
  },
  seen,
)

abbrev pub table : (key : Shape) → IsTable (Rule key) of_batches nothing_did (empty key)
table key = record {
  now = λ s k. k.now;
  stands = λ s k. k.stands;
  kept = kept key;
  wide = λ o words h. let wide = h.wide in omega arith;
  recounted = λ o words y h. shows_count o words y h;
}

-- the number of places stays in what the end knows
pub first_room : (key : Shape) (s : St) (k : Rule key s) (id : ℕ) (v : View) → get_elem? s.views id ≡ some v → v.first.room ≡ k.now.object.room
first_room key s k id v at = ap (λ (z : BatchState). z.room) (k.stands.true_ends.first_is id v at) ∙ sym k.room

-- the end is under the rule that its step keeps
pub ruled_now : (key : Shape) (words : List ℕ) (homes : List (Option ℕ)) (s : St) (id : ℕ) (v w : View) → get_elem? s.views id ≡ some v → (r : Rule key record { words = words; homes = homes; views = set s.views id w }) × (w.seen ≡ r.now) → InvHeldOf w
ruled_now key words homes s id v w at r = ruling.ruled_now Rule now_of key words homes s id v w at r

-- what the end lists under the rule is true, as is the entry of its last step
pub honest : (v : View) → InvHeldOf v → IsValidView of_batches v
honest v r = ruling.honest Rule now_of (λ key s k. k.stands) v r

pub step_real : (v w : View) (e : Step BatchState) (own : EndRecord) → Stepped v e own w → IsValidStep of_batches e
step_real v w e own s = ruling.step_real Rule now_of (λ key s k. k.stands) v w e own s.ruled s.made

module _ (key : Shape) (n id : ℕ) (me : Me ℕ View) (s : St) (k : Rule key s) (at : get_elem? s.views id ≡ some me.0) where
  -- the report of a look
  pub found : (i : ℕ) → tables.Behind (table key) n id me s i (get_or s.words i 0) (ends.looked k.stands id me.0 at i) → finds (step n i 0 0 none) me (get_or s.words i 0) (ends.looked k.stands id me.0 at i, me.1)
  found i r = let w : View = ends.looked k.stands id me.0 at i in let ruled = ruled_now key (set s.words i (get_or s.words i 0)) s.homes s id me.0 w at r in
      ((refl, refl, ∣ ruled ∣₁), refl, record { made = ends.made_now k.stands id me.0 at me.0.own i (get_or s.words i 0) k.now; ruled = ruled; grows = k.seen id me.0 at })

  -- an event of a live end, with its act, keeps the rule
  pub acts : (i y : ℕ) (own : EndRecord) (o : BatchState) (a : Act ℕ) (P : Me ℕ View → Type 0) → 1 ≤ me.0.member.ends → i ≢ ends_word → Becomes k.now.object o → WordsShow o (set s.words i y) → Valid s.homes me.1 a
      → ((p : ℕ) → o.freed ≤ p → p < o.freed + o.room → HomeShows o p (get_elem? (homes_after s.homes me.1 a) (p % o.room))) → OwnShows o own
      → ((j : ℕ) (u : View) → get_elem? s.views j ≡ some u → j ≢ id → OwnShows o u.own × ((x : ℕ) → Holds u.own.held x → Holds own.held x → ⊥))
      → ((x : ℕ) → x < length (items_of o) → (phase_at o x ≡ 0) ⊎ (phase_at o x ≡ 2) → Holds own.held x ⊎ HeldElse s.views id x)
      → ViewsShow (positions_of o) (set (map part_of s.views) id (record { queue = positions_of o; runs = own.runs; takes = own.takes }))
      → times_shut k.now.object + own.shuts ≡ times_shut o + me.0.own.shuts
      → length k.now.object.parted + own.parts ≡ length o.parted + me.0.own.parts
      → ((w : View) → Stays me.0 w → Stepped me.0 (change i (get_or s.words i 0) k.now o) own w → P (w, carried_after me.1 a)) → tables.Goes (table key) n id me s i y P
  acts i y own o a P live beside b shows valid homes mine others owned listed shuts parts reports =
      let w : View = ends.acted k.stands id me.0 at own i (get_or s.words i 0) o in let g = becomes_grows k.now.object o b in let t = total_set shuts_of s.views id me.0 w at in let once = k.shut_once in let u = total_set parts_of s.views id me.0 w at in let parted = k.parted_once in
      let r : Rule key record { words = set s.words i y; homes = homes_after s.homes me.1 a; views = set s.views id w } = record {
        now = record k.now { object = o };
        room = g.room ∙ k.room;
        stands = ends.stands_event k.stands id me.0 at own i (get_or s.words i 0) y o live beside refl b (becomes_lawful k.now.object o k.stands.lawful b) shows;
        listed = subst (ViewsShow (positions_of o)) (sym (map-set part_of s.views id w)) listed;
        seen = views_set (λ u. Grows u.seen.object o) s.views id w (grows_refl o) (λ j u e ne. grows_trans u.seen.object k.now.object o (k.seen j u e) g);
        homes = homes;
        owns = views_set (λ u. OwnShows o u.own) s.views id w mine (λ j u e ne. (others j u e ne).0);
        shut_once = omega arith;
        parted_once = omega arith;
        apart = apart_set s.views id w k.apart (λ j u e ne. (others j u e ne).1);
        owned = λ x below out. held_now s.views id x me.0 w at (owned x below out);
      } in let ruled = ruled_now key (set s.words i y) (homes_after s.homes me.1 a) s id me.0 w at (r, refl) in (
        w,
        a,
        valid,
        r,
        reports w (refl, refl, ∣ ruled ∣₁) (record { made = ends.made_now k.stands id me.0 at own i (get_or s.words i 0) (record k.now { object = o }); ruled = ruled; grows = k.seen id me.0 at }),
      )

pub looks : (key : Shape) (n id : ℕ) (me : Me ℕ View) (i : ℕ) → 1 ≤ me.0.member.ends → Allows (Rule key) n id me i (λ x. x) (finds (step n i 0 0 none) me)
looks key n id me i live = tables.looks (table key) n id me (finds (step n i 0 0 none) me) i live (λ s k at r. found key n id me s k at i r)

-- two positions of one window have two places
pub one_place : (room from p q : ℕ) → from ≤ p → p < from + room → from ≤ q → q < from + room → p % room ≡ q % room → p ≡ q
one_place room from p q a b c d e = dite (dec_le p q) (λ le. one_turn p q room le (omega arith) e) (λ n. sym (one_turn q p room (omega arith) (omega arith) (sym e)))
