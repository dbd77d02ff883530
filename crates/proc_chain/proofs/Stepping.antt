-- Each step keeps the rule, and reports to its end what it says.
use Rattle.proc_chain.proofs.Common.{◌≡◌, ◌≢◌, ℕ, ◌+◌, ◌-◌, ◌/◌, ◌%◌, ◌<◌, ◌≤◌, ◌⊎◌, inl, inr, ⊎_elim, true, false, eqb, List, [], ◌∷◌, ◌++◌, map, length, get_or, set, sym, refl, ap, ◌∙◌, subst, arith, length-set, length-append, map-set, some, none, dite, ℕ_discrete, dec_lt, get_elem?, State, Me, step, Allows, at_map, at_set, set_here, set_else, Cell, Batch, Positions, AbsState, change, blank, place_at, item_at, stage_at, Grows, fresh, with_write, with_take, head_of, tail_of, Lawful, spot, ViewsShow, number_of, with_stage, at_below, one_at, grows_refl, claim_grows, write_grows, run_stands, found_not_raised, ChainOps, GatedQueue, Shape, FIRST_PLACE, head_word, tail_word, ends_word, gate_word, note_in, mark_in, place_word, notes_of, WordsShow, Shows, IsPlace, first_queue, IsLawful, Becomes, with_note, with_raise, with_taken, with_gate, taking, AreShown, View, nothing_did, of_chains, part_of, IsSettled, GateShows, SlotShows, Rule, IsValidChainView, Meets, Stepped, Raised, run, IsRunner}
use Rattle.std.proofs.Common.{mod-lt, get_or-set_same, get_or-set_other}
use mathlib.Core.Option.{Option}
use prog.Atomic.{either}
use Rattle.atomic_table.specs.Table.{keeps, gives, put_back}
use Rattle.atomic_table.specs.Table as acts
use Rattle.table_theory.specs.Ledgers.{StepEffect, stays, event}
use Rattle.table_theory.specs.Ledgers as ends
use Rattle.table_theory.specs.Positioned.{with_claim}
use Rattle.table_theory.proofs.Ledgers.{after}
use Rattle.table_theory.proofs.Stepping.{past, real_step, honest, made_now, stands_event, stands_seen}
use Rattle.table_theory.proofs.Tables.{IsTable, Goes}
use Rattle.table_theory.proofs.Tables as tables
use Rattle.table_theory.proofs.Positioned.{claim_old, claim_new, write_here, write_else}
use Rattle.table_theory.proofs.Listing.{Own, own, listed_look, listed_claim, listed_write, listed_take, distinct}
use Rattle.table_theory.proofs.Windows.{window_same, window_claim, window_write, window_take}
use Rattle.proc_chain.specs.Layout.{gate_in, IsUnused}
use Rattle.proc_chain.proofs.Kept.{kept_words, kept_claim, kept_raise, kept_take}
use Rattle.proc_chain.specs.Changes as becomes
use Rattle.proc_chain.specs.Chainings.{IsChainEvent}
use Rattle.proc_chain.specs.Happenings.{Kind, Does, event_by, Happens}
use Rattle.proc_chain.specs.Happenings as kinds
use Rattle.event_theory.specs.Chains.{raise_note}
use Rattle.proc_chain.proofs.Events.{claim_event, raise_event, take_event, won_event, notify_event, round_event, leave_event}
use Rattle.proc_chain.specs.Steps.{raised_run, finds, claims, raises, spies, notifies, rounds, leaves}
use Rattle.proc_chain.specs.Steps as reports
use Rattle.proc_chain.proofs.Becoming.{raise_is, becomes_lawful}
use Rattle.proc_chain.proofs.Gates.{others_still, gate_up, Covers, owed_on, covers_same, covers_more, gated_same, gated_runs, gated_more, gated_leaves, notes_same, housed_on}

-- no view is doubled after one is set
pub undoubled_set : (views : List View) (id : ℕ) (w : View) → ((j : ℕ) (u : View) → get_elem? views j ≡ some u → u.own.doubled ≡ false) → w.own.doubled ≡ false → (j : ℕ) (u : View) → get_elem? (set views id w) j ≡ some u → u.own.doubled ≡ false
undoubled_set views id w old own j u has = ⊎_elim (λ t. ap (λ (z : View). z.own.doubled) (sym t.1) ∙ own) (λ t. old j u t.1) (at_set views id j w u has)

pub settled_look : (q : Positions) (views : List View) (id : ℕ) (v w : View) → get_elem? views id ≡ some v → w.own.owes ≡ v.own.owes → w.own.runs ≡ v.own.runs → IsSettled q views → IsSettled q (set views id w)
settled_look q views id v w at owes same s up = owed_on q q views id v w at (s up) refl (λ h. owes ∙ h) (λ _. covers_same v w same)

-- the gate, after a look of an end that then did what it had done
pub gated_look : (q : Positions) (gate : ℕ) (views : List View) (id : ℕ) (v w : View) → GateShows q gate views → get_elem? views id ≡ some v → w.own ≡ v.own → w.seen.object.queue.taken ≡ q.taken → GateShows q gate (set views id w)
gated_look q gate views id v w g at own sees = gated_same q q gate views id v w g at (λ i. (own i).runner) refl (λ _. sees) (λ _ i. (own i).taken) (λ h. inl ((λ i. (sym own i).saw) ∙ h)) (settled_look q views id v w at (λ i. (own i).owes) (λ i. (own i).runs))

-- the views' parts, if one view sees the queue as it is
pub listed_part : (q : Positions) (views : List View) (id : ℕ) (v w : View) → ViewsShow q (map part_of views) → get_elem? views id ≡ some v → w.own.runs ≡ v.own.runs → w.own.takes ≡ v.own.takes → w.seen.object.queue ≡ q → ViewsShow q (map part_of (set views id w))
listed_part q views id v w l at runs taken sees = subst (ViewsShow q) (sym (map-set part_of views id w)) (listed_look q (map part_of views) id (part_of v) (part_of w) l (at_map part_of views id v at) runs taken (subst (λ (z : Positions). Grows z q) (sym sees) (grows_refl q)))

-- the number of ends and the gate are no words of the queue
none_other : (i j : ℕ) → (i ≡ ends_word) ⊎ (i ≡ gate_word) → (j ≡ head_word) ⊎ (j ≡ tail_word) ⊎ (FIRST_PLACE ≤ j) → i ≡ j → ⊥
none_other i j at ne e = ⊎_elim (λ a. ⊎_elim (λ b. omega arith) (λ b. ⊎_elim (λ c. omega arith) (λ c. omega arith) b) ne) (λ a. ⊎_elim (λ b. omega arith) (λ b. ⊎_elim (λ c. omega arith) (λ c. omega arith) b) ne) at

-- a word between those used stays as it was, whichever of these changes
unused_else : (words : List ℕ) (i y j : ℕ) → (i ≡ head_word) ⊎ (i ≡ ends_word) ⊎ (i ≡ tail_word) ⊎ (i ≡ gate_word) ⊎ (FIRST_PLACE ≤ i) → IsUnused j → get_or (set words i y) j 0 ≡ get_or words j 0
unused_else words i y j at u = let from = u.0 in let to = u.1 in get_or-set_other words i j y 0 (λ e. ⊎_elim (λ a. omega arith) (λ b. ⊎_elim (λ a. omega arith) (λ c. ⊎_elim (λ a. u.2 (e ∙ a)) (λ d. ⊎_elim (λ a. u.3 (e ∙ a)) (λ a. omega arith) d) c) b) at)

-- a word that is none of the queue's
pub shows_else : (q : Positions) (words : List ℕ) (i y : ℕ) → (i ≡ ends_word) ⊎ (i ≡ gate_word) → WordsShow q words → WordsShow q (set words i y)
shows_else q words i y at h = let other : (j : ℕ) → (j ≡ head_word) ⊎ (j ≡ tail_word) ⊎ (FIRST_PLACE ≤ j) → get_or (set words i y) j 0 ≡ get_or words j 0 = λ j ne. get_or-set_other words i j y 0 (λ e. none_other i j at ne (sym e)) in record {
  wide = length-set words i y ∙ h.wide;
  room = h.room;
  is_open = h.is_open;
  bounded = h.bounded;
  head = other head_word (inl refl) ∙ h.head;
  tail = other tail_word (inr (inl refl)) ∙ h.tail;
  window = window_same q (mark_in words) (note_in words) (mark_in (set words i y)) (note_in (set words i y)) h.window
      (λ k b. ap (λ (z : ℕ). z / 65536) (other (k + FIRST_PLACE) (inr (inr (omega arith))))) (λ k b. ap (λ (z : ℕ). z % 65536) (other (k + FIRST_PLACE) (inr (inr (omega arith)))));
  kept = kept_words q words i y (⊎_elim (λ e. omega arith) (λ e. omega arith) at) h.kept;
  unused = λ j u. unused_else words i y j (⊎_elim (λ e. inr (inl e)) (λ e. inr (inr (inr (inl e)))) at) u ∙ h.unused j u;
}

shows_gate : (q : Positions) (words : List ℕ) (y : ℕ) → WordsShow q words → WordsShow q (set words gate_word y)
shows_gate q words y h = shows_else q words gate_word y (inr refl) h

shows_claim : (q : Positions) (words : List ℕ) (x new : ℕ) → WordsShow q words → q.taken ≤ length q.places → new ≡ head_of q + 1 → new < 4294967296 → WordsShow (with_claim q (x ∷ [])) (set words head_word new)
shows_claim q words x new h following is fits = let wide = h.wide in let long = length-append q.places (map fresh (x ∷ [])) in record {
  wide = length-set words head_word new ∙ h.wide;
  room = h.room;
  is_open = h.is_open;
  bounded = omega arith;
  head = get_or-set_same words head_word new 0 (omega arith) ∙ (omega arith);
  tail = get_or-set_other words head_word tail_word new 0 (λ e. omega arith) ∙ h.tail;
  window = window_same (with_claim q (x ∷ [])) (mark_in words) (note_in words) (mark_in (set words head_word new)) (note_in (set words head_word new)) (window_claim q (x ∷ []) (mark_in words) (note_in words) h.window)
      (λ k b. ap (λ (z : ℕ). z / 65536) (get_or-set_other words head_word (k + FIRST_PLACE) new 0 (λ e. omega arith))) (λ k b. ap (λ (z : ℕ). z % 65536) (get_or-set_other words head_word (k + FIRST_PLACE) new 0 (λ e. omega arith)));
  kept = kept_words (with_claim q (x ∷ [])) words head_word new (omega arith) (kept_claim q x words following h.kept);
  unused = λ j u. unused_else words head_word new j (inl refl) u ∙ h.unused j u;
}

shows_take : (q : Positions) (words : List ℕ) (new : ℕ) → WordsShow q words → Lawful q → q.taken + 1 ≤ length q.places → 2 ≤ stage_at q q.taken → new ≡ tail_of q + 1 → WordsShow (with_take q 1) (set words tail_word new)
shows_take q words new h l below up is = let wide = h.wide in record {
  wide = length-set words tail_word new ∙ h.wide;
  room = h.room;
  is_open = h.is_open;
  bounded = h.bounded;
  head = get_or-set_other words tail_word head_word new 0 (λ e. omega arith) ∙ h.head;
  tail = get_or-set_same words tail_word new 0 (omega arith) ∙ (omega arith);
  window = window_same (with_take q 1) (mark_in words) (note_in words) (mark_in (set words tail_word new)) (note_in (set words tail_word new)) (window_take q 1 (mark_in words) (note_in words) h.window l below)
      (λ k b. ap (λ (z : ℕ). z / 65536) (get_or-set_other words tail_word (k + FIRST_PLACE) new 0 (λ e. omega arith))) (λ k b. ap (λ (z : ℕ). z % 65536) (get_or-set_other words tail_word (k + FIRST_PLACE) new 0 (λ e. omega arith)));
  kept = kept_words (with_take q 1) words tail_word new (omega arith) (kept_take q words h.window h.room up h.kept);
  unused = λ j u. unused_else words tail_word new j (inr (inr (inl refl))) u ∙ h.unused j u;
}

-- the stored number determines which run was raised, and with which note
raised_as : (v w : View) (u found at x start start' note' : ℕ) (m : AbsState GatedQueue) (e e' : Batch) → u ≡ place_word start' → at ≡ start' → x ≡ note' → start ≡ start' → e ≡ e'
    → Stepped v (change u found m (with_raise m.object at x)) (raised_run v start e) w → IsPlace m.object.queue at (get_or e.places 0 blank) → Raised v start' note' e' w
raised_as v w u found at x start start' note' m e e' a b c d f t p = (
  found,
  m,
  subst (λ (z : Type 0). z) (λ i. Stepped v (change (a i) found m (with_raise m.object (b i) (c i))) (raised_run v (d i) (f i)) w) t,
  subst (λ (z : Type 0). z) (λ i. IsPlace m.object.queue (b i) (get_or (f i).places 0 blank)) p,
)

module _ {Q W : Type 0} (made : W → Q → List ℕ → Type 0) (fits : W → Q → Type 0) (key : Shape W) where
  abbrev R : State Q View → Type 0
  R = Rule made fits key

  -- the view after a step that made this of the queue and the gate
  abbrev pub acted : {s : State Q View} → R s → View → ChainOps → ℕ → ℕ → GatedQueue → View
  acted k v own i found o = after v own v.member (past k.stands) (change i found k.now o)

  -- the view of an end that sees the chain as it is, is true
  pub valid : (s : State Q View) (k : R s) (id : ℕ) (v : View) → get_elem? s.views id ≡ some v → v.seen ≡ k.now → IsValidChainView v
  valid s k id v at is = let P : GatedQueue → Type 0 = λ o. IsLawful o × (o.queue.room ≡ 32) × (head_of o.queue < 4294967296) × AreShown o s.views in
      let p : P v.seen.object = subst P (λ i. (sym is i).object) (k.stands.lawful, k.stands.shows.0.room, k.stands.shows.0.bounded, record { listed = k.listed; gate = k.gate }) in record { honest = honest k.stands id v at; lawful = p.0; room = p.1; bounded = p.2; views = s.views; shown = p.3; seat = id; here = at }

  -- what the end finds
  pub meets : (s : State Q View) (k : R s) (id : ℕ) (v : View) → get_elem? s.views id ≡ some v → Meets v k.now.object
  meets s k id v at = record { grows = k.listed.seen id (part_of v) (at_map part_of s.views id v at); turn = λ r. sym (k.gate.takes id v at r); count = λ r. sym (k.gate.counts id v at r) }

  step_reported : (s : State Q View) (k : R s) (i found id : ℕ) (v : View) (own : ChainOps) (o : GatedQueue) → get_elem? s.views id ≡ some v → found ≡ get_or s.words i 0 → StepEffect of_chains k.now (record k.now { object = o }) → Stepped v (change i found k.now o) own (acted k v own i found o)
  step_reported s k i found id v own o at is effect = let n : AbsState GatedQueue = record k.now { object = o } in record { made = made_now k.stands id v at own i found n; seen = refl; real = real_step k.stands i found n is effect; meets = meets s k id v at }

  abbrev shown_by : (s : State Q View) (k : R s) → AreShown k.now.object s.views
  shown_by s k = record { listed = k.listed; gate = k.gate }

  -- an event of the core, which the views show
  abbrev happens : (s : State Q View) (k : R s) (i found id : ℕ) (v : View) (own : ChainOps) (o : GatedQueue) → get_elem? s.views id ≡ some v → Becomes k.now.object o → (kind : Kind) → Does kind k.now.object o → IsChainEvent k.now.object o s.views (shown_by s k) id (acted k v own i found o) (event_by id kind) → Happens k.now.object o
  happens s k i found id v own o at b kind does ev = record { becomes = b; event = record { kind = kind; does = does; views = s.views; shown = shown_by s k; seat = id; view = v; here = at; after = acted k v own i found o; seen = refl; event = ev } }

  -- the rule, and the report, after an event at a word that is not the number of ends
  module _ (s : State Q View) (k : R s) (i found id : ℕ) (v : View) (own : ChainOps) (o : GatedQueue) (at : get_elem? s.views id ≡ some v) (is : found ≡ get_or s.words i 0) (h : Happens k.now.object o) where
    kept_event : (y : ℕ) (homes : List (Option Q)) → 1 ≤ v.member.ends → i ≢ ends_word → o.queue.first ≡ k.now.object.queue.first → Shows o (set s.words i y) → ViewsShow o.queue (map part_of (set s.views id (acted k v own i found o)))
        → GateShows o.queue o.gate (set s.views id (acted k v own i found o)) → SlotShows made fits key.pact o.queue o.gate homes → own.doubled ≡ v.own.doubled
        → R record { words = set s.words i y; homes = homes; views = set s.views id (acted k v own i found o) } × IsValidChainView (acted k v own i found o)
    kept_event y homes live ne first shows listed gate slot doubled = let w : View = acted k v own i found o in let r : R record { words = set s.words i y; homes = homes; views = set s.views id w } = record {
      now = record k.now { object = o };
      stands = stands_event k.stands id v at own i found y o live ne is h (becomes_lawful k.now.object o k.stands.lawful h.becomes) shows;
      first = first ∙ k.first;
      listed = listed;
      gate = gate;
      slot = slot;
      undoubled = undoubled_set s.views id w k.undoubled (doubled ∙ k.undoubled id v at);
    } in (r, valid record { words = set s.words i y; homes = homes; views = set s.views id w } r id w (set_here s.views id w (at_below s.views id v at)) refl)

    event_reported : Stepped v (change i found k.now o) own (acted k v own i found o)
    event_reported = step_reported s k i found id v own o at is (event o h refl)

  -- the rule after a step that leaves the queue and the gate, of an end that then did this
  pub kept_still : (s : State Q View) (k : R s) (words : List ℕ) (id number : ℕ) (v w : View) → get_elem? s.views id ≡ some v → w.own.runs ≡ v.own.runs → w.own.takes ≡ v.own.takes → w.own.doubled ≡ v.own.doubled → w.seen ≡ record k.now { ends = number }
      → GateShows k.now.object.queue k.now.object.gate (set s.views id w) → ends.TableInv of_chains nothing_did (first_queue key.first) (record k.now { ends = number }) words (set s.views id w) → (r : R record { words = words; homes = s.homes; views = set s.views id w }) × (w.seen ≡ r.now)
  kept_still s k words id number v w at runs takes doubled seen gate stands = (
    record { now = record k.now { ends = number }; stands = stands; first = k.first; listed = listed_part k.now.object.queue s.views id v w k.listed at runs takes (λ i. (seen i).object.queue); gate = gate; slot = k.slot; undoubled = undoubled_set s.views id w k.undoubled (doubled ∙ k.undoubled id v at) },
    seen,
  )

  -- the rule as the theory of tables has it
  abbrev pub table : IsTable R of_chains nothing_did (first_queue key.first)
  table = record {
    now = λ s k. k.now;
    stands = λ s k. k.stands;
    kept = λ s k words id number v w at own seen stands. kept_still s k words id number v w at (λ i. (own i).runs) (λ i. (own i).takes) (λ i. (own i).doubled) seen (gated_look k.now.object.queue k.now.object.gate s.views id v w k.gate at own (λ i. (seen i).object.queue.taken)) stands;
    wide = λ o words h. let wide = h.0.wide in omega arith;
    recounted = λ o words y h. (shows_else o.queue words ends_word y (inl refl) h.0, get_or-set_other words ends_word gate_word y 0 (λ e. omega arith) ∙ h.1);
  }

  -- the view of an end after its step is true
  pub after_reported : (s : State Q View) (words : List ℕ) (id : ℕ) (v w : View) → get_elem? s.views id ≡ some v → (r : R record { words = words; homes = s.homes; views = set s.views id w }) → w.seen ≡ r.now → IsValidChainView w
  after_reported s words id v w at r is = valid record { words = words; homes = s.homes; views = set s.views id w } r id w (set_here s.views id w (at_below s.views id v at)) is

  -- a look of an end that then did this
  look_goes : (s : State Q View) (k : R s) (n i id : ℕ) (me : Me Q View) (P : Me Q View → Type 0) (own : ChainOps) → get_elem? s.views id ≡ some me.0 → 1 ≤ me.0.member.ends → own.runs ≡ me.0.own.runs → own.takes ≡ me.0.own.takes → own.doubled ≡ me.0.own.doubled → GateShows k.now.object.queue k.now.object.gate (set s.views id (acted k me.0 own i (get_or s.words i 0) k.now.object))
      → (IsValidChainView (acted k me.0 own i (get_or s.words i 0) k.now.object) → Stepped me.0 (change i (get_or s.words i 0) k.now k.now.object) own (acted k me.0 own i (get_or s.words i 0) k.now.object) → P (acted k me.0 own i (get_or s.words i 0) k.now.object, me.1)) → Goes table n id me s i (get_or s.words i 0) P
  look_goes s k n i id me P own at live runs takes doubled gate p = let found : ℕ = get_or s.words i 0 in let w : View = acted k me.0 own i found k.now.object in let r = kept_still s k (set s.words i found) id k.now.ends me.0 w at runs takes doubled refl gate (stands_seen k.stands id me.0 at own i live) in
      (w, keeps, tt, r.0, p (after_reported s (set s.words i found) id me.0 w at r.0 r.1) (step_reported s k i found id me.0 own k.now.object at refl (stays refl)))

  pub looks : (n id : ℕ) (me : Me Q View) (i : ℕ) → 1 ≤ me.0.member.ends → Allows R n id me i (λ x. x) (finds (step n i 0 0 none) me)
  looks n id me i live = tables.looks table n id me (finds (step n i 0 0 none) me) i live (λ s k at b. ((refl, after_reported s _ id me.0 _ at b.0 b.1), (k.now, step_reported s k i (get_or s.words i 0) id me.0 me.0.own k.now.object at refl (stays refl))))

  pub claims_head : (n id : ℕ) (me : Me Q View) (old new x : ℕ) → x < 65536 → new ≡ old + 1 → new < 4294967296 → old + 1 ≤ tail_of me.0.seen.object.queue + me.0.seen.object.queue.room → 1 ≤ me.0.member.ends
      → Allows R n id me head_word (λ y. either (eqb y old) new y) (claims x (step n head_word old new none) me)
  claims_head n id me old new x tiny is bounded room live = tables.exchanges table n id me (claims x (step n head_word old new none) me) head_word old new live
      (λ s k at hit. let v : View = me.0 in let o : GatedQueue = k.now.object in let q : Positions = o.queue in let g = meets s k id v at in let hd = k.stands.shows.0.head in let here : head_of q ≡ old = omega arith in let first = g.grows.first in let same_room = g.grows.room in let further = g.grows.further in let following = k.stands.lawful.0.taken_within in
      let own_now : ChainOps = record v.own { runs = v.own.runs ++ run old x ∷ [] } in let o' : GatedQueue = with_note o x in let q' : Positions = o'.queue in let w : View = acted k v own_now head_word old o' in
      let b : Becomes o o' = becomes.claimed x tiny (omega arith) k.stands.shows.0.is_open refl in
      let h : Happens o o' = happens s k head_word old id v own_now o' at b (kinds.claims x) refl (claim_event o s.views id v w (shown_by s k) at k.stands.lawful.0 x tiny (omega arith) k.stands.shows.0.is_open refl (λ z. record v.own { runs = v.own.runs ++ run (sym here z) x ∷ [] })) in
      let listed' : ViewsShow q' (set (map part_of s.views) id (part_of w)) = listed_claim q (map part_of s.views) id (part_of v) (part_of w) (x ∷ []) k.listed (at_map part_of s.views id v at) following k.stands.shows.0.is_open (omega arith) (λ z. v.own.runs ++ run (sym here z) x ∷ []) refl (grows_refl q') in
      let settled : IsSettled q s.views → IsSettled q' (set s.views id w) = λ st up. dite (dec_lt q.taken (length q.places))
      (λ c. let e : stage_at q' q.taken ≡ stage_at q q.taken = ap (λ (z : Cell). z.stage) (claim_old q (x ∷ []) q.taken c) in owed_on q q' s.views id v w at (st (omega arith)) refl (λ h. h) (λ _. covers_more v w (run old x ∷ []) refl))
      (λ nb. let e = claim_new q (x ∷ []) q.taken (omega arith) in absurd (omega arith)) in
      let p = kept_event s k head_word old id v own_now o' at (sym hit) h new s.homes live (λ e. omega arith) refl
      (shows_claim q s.words x new k.stands.shows.0 following (omega arith) bounded, get_or-set_other s.words head_word gate_word new 0 (λ e. omega arith) ∙ k.stands.shows.1)
      (subst (ViewsShow q') (sym (map-set part_of s.views id w)) listed') (gated_same q q' o.gate s.views id v w k.gate at refl refl (λ _. refl) (λ _. refl) (λ h. inl h) settled)
      (housed_on made fits key.pact q q' o.gate s.homes k.slot (notes_same q q' (claim_grows q (x ∷ []) k.stands.shows.0.is_open) refl following)) refl in
      let distinct' = distinct q' (set (map part_of s.views) id (part_of w)) id (part_of w) listed'.lists (set_here (map part_of s.views) id (part_of w) (at_below (map part_of s.views) id (part_of v) (at_map part_of s.views id v at))) in
      (w, keeps, tt, p.0, ((refl, p.1), (λ _. (k.now, event_reported s k head_word old id v own_now o' at (sym hit) h, distinct', λ m e has. (let l = run_stands q (map part_of s.views) id m (part_of v) e k.listed.lists (at_map part_of s.views id v at) has in let st = l.start in let within = l.within in omega arith))), λ miss. absurd (miss hit))))
      (λ s k at miss b. ((refl, after_reported s _ id me.0 _ at b.0 b.1), (λ hit. absurd (miss hit)), λ _. (k.now, step_reported s k head_word (get_or s.words head_word 0) id me.0 me.0.own k.now.object at refl (stays refl))))

  -- the end raises the place of its run that starts at `start`
  pub raises_place : (n id : ℕ) (me : Me Q View) (start u x : ℕ) (e : Batch) → 1 ≤ me.0.member.ends → get_elem? me.0.own.runs (number_of start me.0.own.runs) ≡ some e → e.start ≡ start → 0 < length e.places → (get_or e.places 0 blank).stage < 2 → u ≡ place_word start
      → x / 65536 ≡ start + 1 → x % 65536 ≡ (get_or e.places 0 blank).item → Allows R n id me u (λ _. x) (λ _. raises (step n u x 0 none) me x)
  raises_place n id me start u x e live has starts below low word flag_is note_is s k _ at _ = let v : View = me.0 in let m : ℕ = number_of start v.own.runs in let o : GatedQueue = k.now.object in let q : Positions = o.queue in
      let mine : Own q e 0 = own q e 0 k.stands.lawful.0 (run_stands q (map part_of s.views) id m (part_of v) e k.listed.lists (at_map part_of s.views id v at) has) below low in let p : ℕ = mine.at in let st = mine.start in let from = mine.from in
      let o' : GatedQueue = with_raise o (q.first + p) (item_at q p) in let q'' : Positions = with_write q p 2 in let own_now : ChainOps = raised_run v start e in let found : ℕ = get_or s.words u 0 in let w : View = acted k v own_now u found o' in let words' : List ℕ = set s.words u x in
      let is_write : o' ≡ record o { queue = q'' } = raise_is o p in
      let wide = k.stands.shows.0.wide in let room = k.stands.shows.0.room in let long = length-set q.places p (record { item = item_at q p; stage = 2 }) in
      let was : stage_at q p ≡ (get_or e.places 0 blank).stage = ap (λ (z : Cell). z.stage) mine.same in let item : item_at q p ≡ x % 65536 = ap (λ (z : Cell). z.item) mine.same ∙ sym note_is in
      let same_pos : start ≡ q.first + p = omega arith in let here : u ≡ spot q p + FIRST_PLACE = word ∙ (λ i. same_pos i % sym room i + FIRST_PLACE) in let near : spot q p < q.room = mod-lt (q.first + p) k.stands.shows.0.window.some_room in
      let now = write_here q p 2 mine.below in let stage : stage_at q'' p ≡ 2 = ap (λ (z : Cell). z.stage) now in
      let stored : get_or words' (spot q p + FIRST_PLACE) 0 ≡ x = ap (λ (z : ℕ). get_or words' z 0) (sym here) ∙ get_or-set_same s.words u x 0 (omega arith) in
      let other : (j : ℕ) → j ≢ u → get_or words' j 0 ≡ get_or s.words j 0 = λ j ne. get_or-set_other s.words u j x 0 ne in
      let b : Becomes o o' = becomes.raised p mine.from mine.below (omega arith) refl in
      let ev = raise_event o s.views id v w (shown_by s k) at k.stands.lawful.0 m p e has below mine.start mine.from low (omega arith) is_write refl in
      let h : Happens o o' = happens s k u found id v own_now o' at b (kinds.raises ev.0) (q.first + p, item_at q p, refl) (subst (λ (z : GatedQueue). IsChainEvent o z s.views (shown_by s k) id w (raise_note id ev.0 0)) (sym is_write) ev.1) in
      let here_at : get_elem? (set s.views id w) id ≡ some w = set_here s.views id w (at_below s.views id v at) in
      let run_at : get_elem? w.own.runs m ≡ some (with_stage e 0 2) = set_here v.own.runs m (with_stage e 0 2) (at_below v.own.runs m e has) in
      let covers : Covers v w = λ i f at_f. dite (ℕ_discrete i m)
      (λ same. (m, with_stage e 0 2, run_at, ap (λ (z : Batch). z.start) (one_at v.own.runs m e f has (subst (λ (z : ℕ). get_elem? v.own.runs z ≡ some f) same at_f))))
      (λ ne. (i, f, set_else v.own.runs m i (with_stage e 0 2) ne ∙ at_f, refl)) in
      let settled : IsSettled q s.views → IsSettled q'' (set s.views id w) = λ old up. dite (ℕ_discrete q.taken p)
      (λ same. record { owner = id; view = w; is_view = here_at; owes = refl; number = m; run = with_stage e 0 2; has = run_at; start = omega arith })
      (λ ne. let same : stage_at q'' q.taken ≡ stage_at q q.taken = ap (λ (z : Cell). z.stage) (write_else q p q.taken 2 ne) in owed_on q q'' s.views id v w at (old (omega arith)) refl (λ _. refl) (λ _. covers)) in
      let later : Grows o'.queue q'' = subst (λ (z : GatedQueue). Grows o'.queue z.queue) is_write (grows_refl o'.queue) in
      let shows' : WordsShow q'' words' = (let h = k.stands.shows.0 in record {
        wide = length-set s.words u x ∙ h.wide;
        room = h.room;
        is_open = h.is_open;
        bounded = let a = h.bounded in omega arith;
        head = other head_word (λ z. omega arith) ∙ (h.head ∙ (omega arith));
        tail = other tail_word (λ z. omega arith) ∙ h.tail;
        window = window_write q p 2 (mark_in s.words) (note_in s.words) (mark_in words') (note_in words') h.window mine.from mine.to
            (λ j c ne. ap (λ (z : ℕ). z / 65536) (other (j + FIRST_PLACE) (λ z. ne (omega arith)))) (λ j c ne. ap (λ (z : ℕ). z % 65536) (other (j + FIRST_PLACE) (λ z. ne (omega arith))))
            record { low = λ h. absurd (omega arith); up = λ h. ap (λ (z : ℕ). z / 65536) stored ∙ (flag_is ∙ ap (λ (z : ℕ). z + 1) same_pos); holds = λ h. ap (λ (z : ℕ). z % 65536) stored ∙ (sym item ∙ sym (ap (λ (z : Cell). z.item) now)) };
        kept = kept_raise q p s.words u x (word ∙ ap place_word same_pos) mine.from (let t = mine.to in omega arith) mine.below h.kept;
        unused = λ j z. unused_else s.words u x j (inr (inr (inr (inr (omega arith))))) z ∙ h.unused j z;
      }) in
      let listed' : ViewsShow q'' (map part_of (set s.views id w)) = subst (ViewsShow q'') (sym (map-set part_of s.views id w)) (listed_write q (map part_of s.views) id m 0 2 p (part_of v) (part_of w) e k.listed (at_map part_of s.views id v at) has below mine.start mine.from (omega arith) refl refl later) in
      let gate' : GateShows q'' o.gate (set s.views id w) = gated_same q q'' o.gate s.views id v w k.gate at refl refl (λ _. ap (λ (z : GatedQueue). z.queue.taken) is_write) (λ _. refl) (λ h. inl h) settled in
      let slot' : SlotShows made fits key.pact q'' o.gate s.homes = housed_on made fits key.pact q q'' o.gate s.homes k.slot (notes_same q q'' (write_grows q p 2 mine.below (omega arith)) refl k.stands.lawful.0.taken_within) in
      let p' = kept_event s k u found id v own_now o' at refl h x s.homes live (λ z. omega arith) refl (subst (λ (z : GatedQueue). Shows z words') (sym is_write) (shows', other gate_word (λ z. omega arith) ∙ k.stands.shows.1))
      (subst (λ (z : GatedQueue). ViewsShow z.queue (map part_of (set s.views id w))) (sym is_write) listed') (subst (λ (z : GatedQueue). GateShows z.queue z.gate (set s.views id w)) (sym is_write) gate')
      (subst (λ (z : GatedQueue). SlotShows made fits key.pact z.queue z.gate s.homes) (sym is_write) slot') refl in (
        w,
        keeps,
        tt,
        p'.0,
        (
          (refl, p'.1),
          (λ start' note' e' small is_word is_place has'. let same : start ≡ start' = omega arith in let note : item_at q p ≡ note' = omega arith in
              raised_as v w u found (q.first + p) (item_at q p) start start' note' k.now e e' is_place (sym same_pos ∙ same) note same (one_at v.own.runs m e e' has (subst (λ (z : ℕ). get_elem? v.own.runs (number_of z v.own.runs) ≡ some e') (sym same) has')) (event_reported s k u found id v own_now o' at refl h)
              record { from = omega arith; below = (let z = mine.below in omega arith); is = ap (place_at q) (let z : q.first + p - q.first ≡ p = omega arith in z) ∙ mine.same }),
        ),
      )

  -- the gate becomes y by a step that leaves the queue
  kept_gate : (s : State Q View) (k : R s) (found y id : ℕ) (v : View) (own : ChainOps) → get_elem? s.views id ≡ some v → found ≡ gate_in s.words → Happens k.now.object (with_gate k.now.object y) → (homes : List (Option Q)) → 1 ≤ v.member.ends → own.runs ≡ v.own.runs → own.takes ≡ v.own.takes → own.doubled ≡ v.own.doubled
      → GateShows k.now.object.queue y (set s.views id (acted k v own gate_word found (with_gate k.now.object y))) → SlotShows made fits key.pact k.now.object.queue y homes
      → R record { words = set s.words gate_word y; homes = homes; views = set s.views id (acted k v own gate_word found (with_gate k.now.object y)) } × IsValidChainView (acted k v own gate_word found (with_gate k.now.object y))
  kept_gate s k found y id v own at is h homes live runs taken doubled g sl = let wide = k.stands.shows.0.wide in let o' : GatedQueue = with_gate k.now.object y in
      kept_event s k gate_word found id v own o' at is h y homes live (λ e. omega arith) refl (shows_gate k.now.object.queue s.words y k.stands.shows.0, get_or-set_same s.words gate_word y 0 (omega arith))
      (listed_part k.now.object.queue s.views id v (acted k v own gate_word found o') k.listed at runs taken refl) g sl doubled

  pub notifies_gate : (makes : Q → List ℕ → Type 0) (suits : Q → Type 0) (n id : ℕ) (me : Me Q View) → 1 ≤ me.0.member.ends → me.0.own.owes ≡ true → ((x : Q) → fits key.pact x → suits x) → ((x : Q) (notes : List ℕ) → made key.pact x notes → makes x notes) → Allows R n id me gate_word (λ _. 2) (notifies makes suits (step n gate_word 2 0 none) me)
  notifies_gate makes suits n id me live owes fit make s k _ at _ = let v : View = me.0 in let o : GatedQueue = k.now.object in let q : Positions = o.queue in let b : Becomes o (with_gate o 2) = becomes.notified refl in dite (ℕ_discrete (gate_in s.words) 0)
      (λ down. let down' : o.gate ≡ 0 = sym k.stands.shows.1 ∙ down in let h = k.slot.home down' in let x : Q = h.0 in let own_now : ChainOps = record v.own { owes = false; runner = true; taken = q.taken; saw = false } in let w : View = acted k v own_now gate_word 0 (with_gate o 2) in let none_runs = k.gate.still down' in let e' : Happens o (with_gate o 2) = happens s k gate_word 0 id v own_now (with_gate o 2) at b kinds.notifies refl (won_event o s.views id v w (shown_by s k) at k.stands.lawful.0 down' owes refl refl) in
      let p = kept_gate s k 0 2 id v own_now at (sym down) e' (set s.homes 0 none) live refl refl refl (gated_runs q 2 s.views id v w at (λ j u has ne. none_runs j u has) (λ e. omega arith) (omega arith) refl refl refl refl) record { home = λ e. absurd (omega arith); held = λ _. ap (λ (z : List (Option Q)). set z 0 none) h.1 } in
      (w, acts.takes 0 x, subst (λ (z : List (Option Q)). get_elem? z 0 ≡ some (some x)) (sym h.1) refl, p.0, (p.1, (λ _. (none_runs id v at, (k.now, event_reported s k gate_word 0 id v own_now (with_gate o 2) at (sym down) e', (x, refl, make x (notes_of q) h.2, fit x h.3)))), λ up. absurd (up down))))
      (λ up. let own_now : ChainOps = record v.own { owes = false } in let found : ℕ = gate_in s.words in let w : View = acted k v own_now gate_word found (with_gate o 2) in let up' : o.gate ≢ 0 = λ e. up (k.stands.shows.1 ∙ e) in let e' : Happens o (with_gate o 2) = happens s k gate_word found id v own_now (with_gate o 2) at b kinds.notifies refl (notify_event o s.views id v w (shown_by s k) at k.stands.lawful.0 up' owes refl refl) in
      let p = kept_gate s k found 2 id v own_now at refl e' s.homes live refl refl refl (gated_more q o.gate s.views id v w k.gate at up' refl refl refl) record { home = λ e. absurd (omega arith); held = λ _. k.slot.held up' } in
      (w, keeps, tt, p.0, (p.1, (λ down. absurd (up down)), λ _. (refl, (up, (k.now, event_reported s k gate_word found id v own_now (with_gate o 2) at refl e'))))))

  pub spies_place : (n id : ℕ) (me : Me Q View) (i : ℕ) → me.0.own.runner ≡ true → 1 ≤ me.0.member.ends → i ≡ place_word (tail_of me.0.seen.object.queue) → Allows R n id me i (λ x. x) (spies (step n i 0 0 none) me)
  spies_place n id me i r live word s k _ at _ = let v : View = me.0 in let o : GatedQueue = k.now.object in let q : Positions = o.queue in let g = meets s k id v at in let y : ℕ = get_or s.words i 0 in
      let taken = g.turn r in let first = g.grows.first in let room = k.stands.shows.0.room in let tail : tail_of v.seen.object.queue ≡ tail_of q = omega arith in let following = k.stands.lawful.0.taken_within in
      dite (ℕ_discrete (y / 65536) (tail_of v.seen.object.queue + 1))
      (λ up. look_goes s k n i id me (spies (step n i 0 0 none) me y) v.own at live refl refl refl (gated_look q o.gate s.views id v (acted k v v.own i y o) k.gate at refl refl) (λ t f. ((refl, t), record { up = λ _. (k.now, f); low = λ ne. absurd (ne up) })))
      (λ no. let here : i ≡ spot q q.taken + FIRST_PLACE = word ∙ (λ j. tail j % sym room j + FIRST_PLACE) in let own_now : ChainOps = record v.own { saw = true } in let w : View = acted k v own_now i y o in
      let low : stage_at q q.taken < 2 = found_not_raised q (mark_in s.words) (note_in s.words) q.taken k.stands.shows.0.window (omega arith) (omega arith) (λ h. no (ap (λ (z : ℕ). get_or s.words z 0 / 65536) here ∙ (h ∙ (omega arith)))) in
      look_goes s k n i id me (spies (step n i 0 0 none) me y) own_now at live refl refl refl (gated_same q q o.gate s.views id v w k.gate at refl refl (λ _. refl) (λ _. refl) (λ _. inr (λ up. absurd (omega arith))) (settled_look q s.views id v w at refl refl)) (λ t f. ((refl, t), record { up = λ up. absurd (no up); low = λ _. (k.now, f) })))

  pub takes_note : (n id : ℕ) (me : Me Q View) (new : ℕ) → me.0.own.runner ≡ true → 1 ≤ me.0.member.ends → 2 ≤ stage_at me.0.seen.object.queue me.0.seen.object.queue.taken → new ≡ tail_of me.0.seen.object.queue + 1
      → Allows R n id me tail_word (λ _. new) (λ _. reports.takes (step n tail_word new 0 none) me new)
  takes_note n id me new r live up is s k _ at _ = let v : View = me.0 in let o : GatedQueue = k.now.object in let q : Positions = o.queue in let g = meets s k id v at in let taken = g.turn r in let first = g.grows.first in let tl = k.stands.shows.0.tail in
      let own_now : ChainOps = record v.own { takes = v.own.takes ++ taking q ∷ []; taken = v.own.taken + 1; saw = false } in let found : ℕ = get_or s.words tail_word 0 in let o' : GatedQueue = with_taken o in let q' : Positions = o'.queue in let w : View = acted k v own_now tail_word found o' in let more = g.grows.more v.seen.object.queue.taken in
      let now : 2 ≤ stage_at q q.taken = subst (λ (z : ℕ). 2 ≤ stage_at q z) (sym taken) (let f : 2 ≤ stage_at q v.seen.object.queue.taken = omega arith in f) in
      let b : Becomes o o' = becomes.took now refl in let lawful' : IsLawful o' = becomes_lawful o o' k.stands.lawful b in let not_idle = gate_up q o.gate s.views id v k.gate at r in let h : Happens o o' = happens s k tail_word found id v own_now o' at b kinds.takes refl (take_event o s.views id v w (shown_by s k) at k.stands.lawful.0 r lawful'.0.taken_within now refl refl) in
      let p = kept_event s k tail_word found id v own_now o' at refl h new s.homes live (λ e. omega arith) refl (shows_take q s.words new k.stands.shows.0 k.stands.lawful.0 lawful'.0.taken_within now (omega arith), get_or-set_other s.words tail_word gate_word new 0 (λ e. omega arith) ∙ k.stands.shows.1)
      (subst (ViewsShow q') (sym (map-set part_of s.views id w)) (listed_take q (map part_of s.views) id 1 (part_of v) (part_of w) k.listed (at_map part_of s.views id v at) (omega arith) lawful'.0.taken_within refl refl (grows_refl q')))
      (gated_runs q' o.gate s.views id v w at (others_still q o.gate s.views id v k.gate at r) not_idle k.gate.bounded r refl refl (ap (λ (z : ℕ). z + 1) (sym (g.count r)))) record { home = λ down. absurd (not_idle down); held = k.slot.held } refl in
      (w, keeps, tt, p.0, ((refl, p.1), (λ tail e. let same : found ≡ tail = omega arith in (k.now, subst (λ (z : ℕ). Stepped v (change tail_word z k.now o') own_now w) same (event_reported s k tail_word found id v own_now o' at refl h)))))

  pub rounds_gate : (n id : ℕ) (me : Me Q View) → me.0.own.runner ≡ true → 1 ≤ me.0.member.ends → Allows R n id me gate_word (λ _. 1) (rounds (step n gate_word 1 0 none) me)
  rounds_gate n id me r live s k _ at _ = let v : View = me.0 in let o : GatedQueue = k.now.object in let q : Positions = o.queue in let not_idle = gate_up q o.gate s.views id v k.gate at r in let found : ℕ = gate_in s.words in
      let own_now : ChainOps = record v.own { saw = false } in let w : View = acted k v own_now gate_word found (with_gate o 1) in let b : Becomes o (with_gate o 1) = becomes.round not_idle refl in let h : Happens o (with_gate o 1) = happens s k gate_word found id v own_now (with_gate o 1) at b kinds.rounds refl (round_event o s.views id v w (shown_by s k) at k.stands.lawful.0 r refl refl) in
      let p = kept_gate s k found 1 id v own_now at refl h s.homes live refl refl refl (gated_runs q 1 s.views id v w at (others_still q o.gate s.views id v k.gate at r) (λ e. omega arith) (omega arith) r refl refl (k.gate.counts id v at r)) record { home = λ e. absurd (omega arith); held = λ _. k.slot.held not_idle } in
      (w, keeps, tt, p.0, ((refl, p.1), (k.now, event_reported s k gate_word found id v own_now (with_gate o 1) at refl h)))

  pub leaves_gate : (n id : ℕ) (me : Me Q View) → me.0.own.saw ≡ true → IsRunner (made key.pact) (fits key.pact) me → Allows R n id me gate_word (λ y. either (eqb y 1) 0 y) (leaves (step n gate_word 1 0 none) me)
  leaves_gate n id me sw runner = tables.exchanges table n id me (leaves (step n gate_word 1 0 none) me) gate_word 1 0 runner.live
      (λ s k at hit. let v : View = me.0 in let o : GatedQueue = k.now.object in let q : Positions = o.queue in let r = runner.runner in let c = runner.carries in let g = meets s k id v at in let not_idle = gate_up q o.gate s.views id v k.gate at r in let hit' : o.gate ≡ 1 = sym k.stands.shows.1 ∙ hit in let own_now : ChainOps = record v.own { runner = false; saw = false } in let w : View = acted k v own_now gate_word 1 (with_gate o 0) in let b : Becomes o (with_gate o 0) = becomes.left hit' refl in let h : Happens o (with_gate o 0) = happens s k gate_word 1 id v own_now (with_gate o 0) at b kinds.leaves refl (leave_event o s.views id v w (shown_by s k) at k.stands.lawful.0 hit' r sw refl refl) in
      let p = kept_gate s k 1 0 id v own_now at (sym hit) h (put_back s.homes me.1) runner.live refl refl refl (gated_leaves q s.views id v w (subst (λ (z : ℕ). GateShows q z s.views) hit' k.gate) at r sw refl refl refl)
      record { home = λ _. (c.0, (λ i. put_back (k.slot.held not_idle i) (c.1 i)), subst (made key.pact c.0) (sym (notes_same v.seen.object.queue q g.grows (g.turn r) runner.taken_within)) c.2, c.3); held = λ e. absurd (e refl) } in
      (w, gives, tt, p.0, (p.1, (λ _. (refl, (k.now, event_reported s k gate_word 1 id v own_now (with_gate o 0) at (sym hit) h))), λ miss. absurd (miss hit))))
      (λ s k at miss b. let y : ℕ = gate_in s.words in let o : GatedQueue = k.now.object in let bounded = k.gate.bounded in let same = k.stands.shows.1 in let f : o.gate ≢ 0 = gate_up o.queue o.gate s.views id me.0 k.gate at runner.runner in let m : y ≢ 1 = miss in let e : o.gate ≡ y = sym same in
      (after_reported s _ id me.0 _ at b.0 b.1, (λ hit. absurd (miss hit)), λ _. (refl, (k.now, step_reported s k gate_word y id me.0 me.0.own o at refl (stays refl)), omega arith)))
