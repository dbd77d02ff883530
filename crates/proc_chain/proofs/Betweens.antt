-- A state for which the rule holds is a lawful chain of the core, shown by the words and the views.
use Rattle.proc_chain.proofs.Common.{◌≡◌, ℕ, ◌+◌, ◌%◌, ◌<◌, ◌≤◌, true, false, true≢false, List, ◌∙◌, map, length, take, refl, sym, ap, subst, arith, Some, eqb, eq-eqb, ne_eqb, dite, dec_le, ℕ_discrete, get_elem?, State, Idle, Positions, is_raised, Chain, is_call, is_idle, place_at, runs_of, Adjacent, long_is, history_of, got, at_map, Shape, View, part_of, note_in, mark_in, notes_of, Rule, GateShows, gate_of, runner_from, owes_in, chain_of}
use Rattle.std.proofs.lemmas.Simd.{map-map}
use Rattle.std.proofs.lemmas.Bool.{le-leb, leb-true}
use mathlib.Core.Option as maybe
use Rattle.event_theory.specs.Runs.{flat}
use Rattle.table_theory.specs.Filing.{ListedOnce}
use Rattle.table_theory.specs.Listing.{takes_of}
use Rattle.table_theory.proofs.Batches.{item_is, up_is, taken_is, taken_items}
use Rattle.proc_chain.specs.Between.{pair_at, PlaceIs, ShowsChain, ShowsEnds}
use Rattle.proc_chain.proofs.Gates.{others_still}
use Rattle.proc_chain.proofs.Events.{runner_none, runner_at, not_idle, chain_is_lawful}

-- a view has the turn exactly if its end is the runner
runner_is : (q : Positions) (gate : ℕ) (views : List View) → GateShows q gate views → (call : ℕ) (v : View) → get_elem? views call ≡ maybe.some v → v.own.runner ≡ is_call call (runner_from 0 views)
runner_is q gate views g call v at = dite (ℕ_discrete gate 0)
    (λ down. g.still down call v at ∙ ap (is_call call) (sym (runner_none 0 views (g.still down))))
    (λ up. let r = g.runs up in let is : runner_from 0 views ≡ Some (0 + r.number) = runner_at 0 r.number views r.view r.is_view r.runner (others_still q gate views r.number r.view g r.is_view r.runner) in
    dite (ℕ_discrete call r.number)
    (λ same. let e : eqb (0 + r.number) call ≡ true = eq-eqb (0 + r.number) call (omega arith) in
    (let w : v ≡ r.view = maybe.some-injective v r.view (sym at ∙ (ap (get_elem? views) same ∙ r.is_view)) in ap (λ (z : View). z.own.runner) w ∙ r.runner) ∙ (sym e ∙ ap (is_call call) (sym is)))
    (λ ne. let e : eqb (0 + r.number) call ≡ false = ne_eqb (0 + r.number) call (λ z. ne (omega arith)) in
    others_still q gate views r.number r.view g r.is_view r.runner call v at ne ∙ (sym e ∙ ap (is_call call) (sym is))))

module _ {Q W : Type 0} (made : W → Q → List ℕ → Type 0) (fits : W → Q → Type 0) (key : Shape W) (s : State Q View) (k : Rule made fits key s) where
  abbrev c : Chain
  c = chain_of k.now.object.queue k.listed.lists.runs k.now.object.gate s.views

  place_is : (i : ℕ) → k.now.object.queue.taken ≤ i → i < length k.now.object.queue.places → PlaceIs c s.words i (key.first + i)
  place_is i from below = let q : Positions = k.now.object.queue in let u = up_is q k.listed.lists.runs k.listed.lists.runs_are.flat i below in let x = item_is k.now.object.queue k.listed.lists.runs k.listed.lists.runs_are.flat i below in let within = k.stands.lawful.0.within in let p = k.stands.shows.0.window.each i from (omega arith) in
      let at : (q.first + i) % q.room ≡ (key.first + i) % 32 = (λ z. (k.first z + i) % k.stands.shows.0.room z) in
      let mark : mark_in s.words ((q.first + i) % q.room) ≡ mark_in s.words ((key.first + i) % 32) = ap (mark_in s.words) at in
      let note : note_in s.words ((q.first + i) % q.room) ≡ note_in s.words ((key.first + i) % 32) = ap (note_in s.words) at in let first = k.first in
      let raised : is_raised c.notes (pair_at c i) ≡ true → 2 ≤ (place_at q i).stage = (λ h. leb-true 2 (place_at q i).stage (sym u ∙ h)) in record {
        raised = λ h. sym mark ∙ (p.up (raised h) ∙ ap (λ (z : ℕ). z + i + 1) first);
        note = λ h. sym note ∙ (p.holds (let w = raised h in omega arith) ∙ sym x);
        claimed = λ h. let low : (place_at q i).stage < 2 = dite (dec_le 2 (place_at q i).stage) (λ y. absurd (true≢false (sym (le-leb 2 (place_at q i).stage y) ∙ (sym u ∙ h)))) (λ no. omega arith) in let f = p.low low in omega arith;
      }

  notes_are : notes_of k.now.object.queue ≡ take c.notes.taken (flat c.notes.history)
  notes_are = taken_is k.now.object.queue k.listed.lists.runs k.listed.lists.runs_are.flat

  idle_word : gate_of k.now.object.gate ≡ Idle → k.now.object.gate ≡ 0
  idle_word h = dite (ℕ_discrete k.now.object.gate 0) (λ y. y) (λ up. absurd (true≢false (sym (ap is_idle h) ∙ not_idle k.now.object.gate up)))

  pub shows_chain : ShowsChain made fits key s
  shows_chain = let q : Positions = k.now.object.queue in let l = k.listed in let n = long_is q l.lists.runs l.lists.runs_are.flat in let h = k.stands.shows.0 in let first = k.first in record {
    now = k.now.object;
    chain = c;
    lawful = chain_is_lawful q k.now.object.gate s.views l k.stands.lawful.0 k.gate;
    shown = record {
      runs = l.lists.runs;
      history = refl;
      once = subst (ListedOnce l.lists.runs) (map-map runs_of part_of s.views) l.lists.runs_are.filed;
      side_by_side = subst (λ (z : ℕ). Adjacent z l.lists.runs) k.first l.lists.runs_are.adjacent;
      raised = λ run index. refl;
      takings = l.lists.takes;
      taken_once = subst (ListedOnce l.lists.takes) (map-map takes_of part_of s.views) l.lists.takes_are.filed;
      taken_in_order = subst (λ (z : ℕ). Adjacent z l.lists.takes) k.first l.lists.takes_are.adjacent;
      taken_notes = taken_items q _ l.lists;
      capacity = h.room;
      is_open = h.is_open;
      long = h.wide;
      bounded = let w = h.bounded in omega arith;
      head = h.head ∙ (omega arith);
      tail = h.tail ∙ ap (λ (z : ℕ). z + q.taken) first;
      places = λ i from below. place_is i from (omega arith);
      gate = ap gate_of (sym k.stands.shows.1);
      gate_word = subst (λ (z : ℕ). z ≤ 2) (sym k.stands.shows.1) k.gate.bounded;
      runner = runner_is q k.now.object.gate s.views k.gate;
      owing = λ call v at. sym (ap owes_in (got s.views call v at));
    };
    same = refl;
    first = k.first;
    history = history_of q (map part_of s.views) l;
    gate = sym k.stands.shows.1;
    seen = λ j v at. k.listed.seen j (part_of v) (at_map part_of s.views j v at);
    home = λ idle. let x = k.slot.home (idle_word idle) in (x.0, x.1, subst (made key.pact x.0) notes_are x.2, x.3);
    held = λ busy. k.slot.held (λ down. busy (ap gate_of down));
  }

  -- and the ends that made it so
  pub shows_ends : ShowsEnds key s shows_chain.now
  unfolding shows_chain
  shows_ends = record { words = k.stands.shows; lawful = k.stands.lawful; views = record { listed = k.listed; gate = k.gate }; ends = k.now.ends; number = k.stands.number; true_ends = k.stands.true_ends }
