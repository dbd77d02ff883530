-- Every step keeps the rule and reports to its end: the rule after an event and after a look.
use Rattle.claim_queue.proofs.Common.{◌≡◌, ◌≢◌, ◌≤◌, ◌<◌, ◌+◌, ◌*◌, ℕ, List, map, get_or, get_or-set_other, set, length-set, sym, refl, ap, ◌∙◌, subst, arith, map-set, some, none, get_elem?, Me, step, Allows, at_map, Positions, AbsState, Step, change, IsValidStep, IsValidView, ViewsShow, Grows, grows_refl, Goes, total_set, total_kept, QueueOps, Shape, Becomes, empty, FIRST_PLACE, head_word, tail_word, ends_word, data_in, flag_in, View, of_queues, nothing_did, part_of, shuts_of, times_shut, Rule, InvHeldOf, WordsShow, Stepped, IsUsed, by_ends, unused_kept}
use Rattle.atomic_table.specs.Table.{State, keeps}
use Rattle.table_theory.specs.Ledgers.{TableInv}
use Rattle.table_theory.specs.Windows.{PlacesShow}
use Rattle.table_theory.proofs.Listing.{look_in}
use Rattle.table_theory.proofs.Ruling as ruling
use Rattle.table_theory.proofs.Stepping as ends
use Rattle.table_theory.proofs.Tables.{IsTable}
use Rattle.table_theory.proofs.Tables as tables
use Rattle.table_theory.specs.Rests.{PlacesRest}
use Rattle.table_theory.proofs.Rests.{rests_same}
use Rattle.table_theory.proofs.Windows.{window_same}
use Rattle.claim_queue.specs.Rules.{now_of}
use Rattle.claim_queue.specs.Steps.{Stays, finds}
use Rattle.claim_queue.proofs.Growing.{becomes_grows, becomes_lawful}

abbrev pub St : Type 0
St = State Unit View

-- the places are shown as before if a word before theirs becomes y
pub window_kept : (q : Positions) (words : List ℕ) (i y : ℕ) → i < FIRST_PLACE → PlacesShow q (flag_in words) (data_in words) → PlacesShow q (flag_in (set words i y)) (data_in (set words i y))
window_kept q words i y low h = window_same q (flag_in words) (data_in words) (flag_in (set words i y)) (data_in (set words i y)) h
    (λ k b. get_or-set_other words i (2 * k + 17) y 0 (λ e. omega arith)) (λ k b. get_or-set_other words i (2 * k + 16) y 0 (λ e. omega arith))

-- the places not written yet have their numbers as before if a word before theirs becomes y
pub rests_kept : (q : Positions) (words : List ℕ) (i y : ℕ) → i < FIRST_PLACE → 0 < q.room → PlacesRest q (flag_in words) (data_in words) → PlacesRest q (flag_in (set words i y)) (data_in (set words i y))
rests_kept q words i y low room h = rests_same q (flag_in words) (data_in words) (flag_in (set words i y)) (data_in (set words i y)) room h
    (λ k b. get_or-set_other words i (2 * k + 17) y 0 (λ e. omega arith)) (λ k b. get_or-set_other words i (2 * k + 16) y 0 (λ e. omega arith))

pub shows_count : (q : Positions) (words : List ℕ) (y : ℕ) → WordsShow q words → WordsShow q (set words ends_word y)
shows_count q words y h = record {
  wide = length-set words ends_word y ∙ h.wide;
  bounded = h.bounded;
  head = get_or-set_other words ends_word head_word y 0 (λ e. omega arith) ∙ h.head;
  tail = get_or-set_other words ends_word tail_word y 0 (λ e. omega arith) ∙ h.tail;
  window = window_kept q words ends_word y (omega arith) h.window;
  rests = rests_kept q words ends_word y (omega arith) h.window.some_room h.rests;
  unused = unused_kept (IsUsed q.room) words ends_word y (by_ends refl) h.unused;
}

-- what an end has seen leads to the queue as it is
pub seen_grows : (key : Shape) (s : St) (k : Rule key s) (id : ℕ) (v : View) → get_elem? s.views id ≡ some v → Grows v.seen.object k.now.object
seen_grows key s k id v at = k.listed.seen id (part_of v) (at_map part_of s.views id v at)

-- the end's view has the queue's first position and its room
pub first_room : (key : Shape) (s : St) (k : Rule key s) (id : ℕ) (v : View) → get_elem? s.views id ≡ some v → v.first.room ≡ k.now.object.room
first_room key s k id v at = ap (λ (z : Positions). z.room) (k.stands.true_ends.first_is id v at) ∙ sym k.room

-- the rule after a step that is no event
pub kept : (key : Shape) (s : St) (k : Rule key s) (words : List ℕ) (id number : ℕ) (v w : View) → get_elem? s.views id ≡ some v → w.own ≡ v.own → w.seen ≡ record k.now { ends = number } → TableInv of_queues nothing_did (empty key) (record k.now { ends = number }) words (set s.views id w)
    → (r : Rule key record { words = words; homes = s.homes; views = set s.views id w }) × (w.seen ≡ r.now)
kept key s k words id number v w at own seen stands = let q : Positions = k.now.object in (
  record {
    now = record k.now { ends = number };
    first = k.first;
    room = k.room;
    stands = stands;
    listed = look_in part_of q s.views id v w k.listed at (λ i. (own i).runs) (λ i. (own i).takes) (subst (λ (z : AbsState Positions). Grows z.object q) (sym seen) (grows_refl q));
    shut_once = total_kept shuts_of s.views id v w at (λ i. (own i).shuts) ∙ k.shut_once;
  },
  seen,
)

-- the rule, as the theory of tables has it
abbrev pub table : (key : Shape) → IsTable (Rule key) of_queues nothing_did (empty key)
table key = record {
  now = λ s k. k.now;
  stands = λ s k. k.stands;
  kept = kept key;
  wide = λ q words h. let wide = h.wide in omega arith;
  recounted = λ q words y h. shows_count q words y h;
}

-- the end is under the rule that its step keeps
pub ruled_now : (key : Shape) (words : List ℕ) (s : St) (id : ℕ) (v w : View) → get_elem? s.views id ≡ some v → (r : Rule key record { words = words; homes = s.homes; views = set s.views id w }) × (w.seen ≡ r.now) → InvHeldOf w
ruled_now key words s id v w at r = ruling.ruled_now Rule now_of key words s.homes s id v w at r

-- what the end lists under the rule is true, as is the entry of its last step
pub honest : (v : View) → InvHeldOf v → IsValidView of_queues v
honest v r = ruling.honest Rule now_of (λ key s k. k.stands) v r

pub step_real : (v w : View) (e : Step Positions) (own : QueueOps) → Stepped v e own w → IsValidStep of_queues e
step_real v w e own s = ruling.step_real Rule now_of (λ key s k. k.stands) v w e own s.ruled s.made

module _ (key : Shape) (n id : ℕ) (me : Me Unit View) (s : St) (k : Rule key s) (at : get_elem? s.views id ≡ some me.0) where
  -- an event of a live end, which found this number in the word i, keeps the rule
  pub acts : (i found y : ℕ) (own : QueueOps) (o : Positions) (P : Me Unit View → Type 0) → 1 ≤ me.0.member.ends → i ≢ ends_word → found ≡ get_or s.words i 0 → Becomes k.now.object o → WordsShow o (set s.words i y)
      → ViewsShow o (set (map part_of s.views) id (record { queue = o; runs = own.runs; takes = own.takes })) → times_shut k.now.object + own.shuts ≡ times_shut o + me.0.own.shuts
      → ((w : View) → Stays me (w, me.1) → Stepped me.0 (change i found k.now o) own w → P (w, me.1)) → Goes (table key) n id me s i y P
  acts i found y own o P live beside is b shows listed shuts reports =
      let w : View = ends.acted k.stands id me.0 at own i found o in let g = becomes_grows k.now.object o b in let t = total_set shuts_of s.views id me.0 w at in let once = k.shut_once in
      let r : Rule key record { words = set s.words i y; homes = s.homes; views = set s.views id w } = record {
        now = record k.now { object = o };
        first = g.first ∙ k.first;
        room = g.room ∙ k.room;
        stands = ends.stands_event k.stands id me.0 at own i found y o live beside is b (becomes_lawful k.now.object o k.stands.lawful b) shows;
        listed = subst (ViewsShow o) (sym (map-set part_of s.views id w)) listed;
        shut_once = omega arith;
      } in let ruled = ruled_now key (set s.words i y) s id me.0 w at (r, refl) in (
        w,
        keeps,
        tt,
        r,
        reports w (refl, refl, refl, ∣ ruled ∣₁) (record { made = ends.made_now k.stands id me.0 at own i found (record k.now { object = o }); ruled = ruled; grows = seen_grows key s k id me.0 at }),
      )

  -- the report of a look
  pub found : (i : ℕ) → tables.Behind (table key) n id me s i (get_or s.words i 0) (ends.looked k.stands id me.0 at i) → finds (step n i 0 0 none) me (get_or s.words i 0) (ends.looked k.stands id me.0 at i, me.1)
  found i r = let w : View = ends.looked k.stands id me.0 at i in let ruled = ruled_now key (set s.words i (get_or s.words i 0)) s id me.0 w at r in
      ((refl, refl, refl, ∣ ruled ∣₁), record { made = ends.made_now k.stands id me.0 at me.0.own i (get_or s.words i 0) k.now; ruled = ruled; grows = seen_grows key s k id me.0 at })

pub looks : (key : Shape) (n id : ℕ) (me : Me Unit View) (i : ℕ) → 1 ≤ me.0.member.ends → Allows (Rule key) n id me i (λ x. x) (finds (step n i 0 0 none) me)
looks key n id me i live = tables.looks (table key) n id me (finds (step n i 0 0 none) me) i live (λ s k at r. found key n id me s k at i r)
