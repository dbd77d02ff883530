-- Each step is one event of the chain that the gate and the views show.
use Rattle.proc_chain.proofs.Common.{◌≡◌, ◌≢◌, ℕ, zero, suc, ◌+◌, ◌<◌, ◌≤◌, Bool, true, false, ◌&&◌, eq-eqb, ne_eqb, List, [], ◌∷◌, ◌++◌, map, length, get_or, set, sym, refl, ap, ◌∙◌, subst, arith, Option, Some, None, ⊎_elim, if◌then◌else◌, length-map, some, some-ne-none, dite, ℕ_discrete, dec_lt, get_elem?, Idle, Cell, Batch, Positions, is_raised, Chain, is_call, raise_note, is_idle, blank, Grows, item_of, place_at, stage_at, head_of, Lawful, fresh, with_write, Owned, runs_of, Adjacent, ViewsShow, with_stage, long_is, history_of, got, at_map, at_set, set_here, set_else, at_below, grows_refl, with_turn, GatedQueue, View, part_of, with_note, with_taken, with_gate, taking, IsSettled, GateShows, gate_of, runner_from, owes_in, chain_of, AreShown, IsChainEvent}
use Rattle.std.proofs.Common.{not, ltb, zero-add, add-zero, slice_get, option_map, Ok, Result}
use Rattle.std.specs.Option.{is_some}
use Rattle.std.proofs.lemmas.Bool.Decides.{nat_tests}
use Rattle.std.proofs.lemmas.Option.{slice_get-get_or, slice_get_past, slice_get-map}
use mathlib.Core.Option.{some-injective}
use Rattle.event_theory.specs.declared.status.Gate.TheVariants.{Running, More}
use Rattle.event_theory.specs.Runs.{pairs, pairs_of, pairs_from}
use Rattle.event_theory.specs.Queues.{Queue, left_pairs, after_claim, after_raise, after_take, claim, raise, take_first}
use Rattle.event_theory.specs.Chains.{with_number, owes, forgotten, is_forgotten, claim_note, take_note, runner_after, notify, round, is_more, leave}
use Rattle.event_theory.specs.Lawful.{IsLawfulChain}
use Rattle.table_theory.specs.QueueOf.{run_in, is_published, queue_of}
use Rattle.event_theory.proofs.Lists.Histories.{length-pairs_from, length-pairs_of}
use Rattle.table_theory.proofs.Logs.{lies}
use Rattle.event_theory.proofs.Lists.Histories.{slice_get-drop}
use Rattle.table_theory.proofs.Batches.{up_is}
use Rattle.table_theory.proofs.QueueOf.{Log, left_long, is_lawful_queue}
use Rattle.table_theory.proofs.QueueEvents.{claimed_is, claim_goes, set_got, set_other, raised_is, raise_goes, take_goes, first_raised}
use Rattle.table_theory.proofs.Listing.{listed_look, listed_claim, listed_write, listed_take}
use Rattle.event_theory.specs.declared.refusal.Refusal.{Refusal}
use Rattle.proc_chain.specs.Own.{queue_of as seen_of}
use Rattle.proc_chain.proofs.Gates.{others_still}

-- who the runner is

pub runner_none : (n : ℕ) (views : List View) → ((j : ℕ) (u : View) → get_elem? views j ≡ some u → u.own.runner ≡ false) → runner_from n views ≡ None
runner_none n [] none = refl
runner_none n (x ∷ xs) none = ap (λ (b : Bool). if b then Some n else runner_from (suc n) xs) (none 0 x refl) ∙ runner_none (suc n) xs (λ j u has. none (suc j) u has)

pub runner_at : (n id : ℕ) (views : List View) (v : View) → get_elem? views id ≡ some v → v.own.runner ≡ true → ((j : ℕ) (u : View) → get_elem? views j ≡ some u → j ≢ id → u.own.runner ≡ false) → runner_from n views ≡ Some (n + id)
runner_at n id [] v at up others = absurd (some-ne-none v (sym at))
runner_at n zero (x ∷ xs) v at up others = let e : x.own.runner ≡ true = ap (λ (z : View). z.own.runner) (some-injective x v at) ∙ up in
    ap (λ (b : Bool). if b then Some n else runner_from (suc n) xs) e ∙ ap Some (sym (add-zero n))
runner_at n (suc id) (x ∷ xs) v at up others = let e : suc n + id ≡ n + suc id = omega arith in
    ap (λ (b : Bool). if b then Some n else runner_from (suc n) xs) (others 0 x refl (λ z. omega arith))
    ∙ (runner_at (suc n) id xs v at up (λ j u has ne. others (suc j) u has (λ z. ne (omega arith))) ∙ ap Some e)

pub runner_set : (n id : ℕ) (views : List View) (v w : View) → get_elem? views id ≡ some v → w.own.runner ≡ v.own.runner → runner_from n (set views id w) ≡ runner_from n views
runner_set n id [] v w at same = absurd (some-ne-none v (sym at))
runner_set n zero (x ∷ xs) v w at same = let e : w.own.runner ≡ x.own.runner = same ∙ sym (ap (λ (z : View). z.own.runner) (some-injective x v at)) in ap (λ (b : Bool). if b then Some n else runner_from (suc n) xs) e
runner_set n (suc id) (x ∷ xs) v w at same = ap (λ (z : Option ℕ). if x.own.runner then Some n else z) (runner_set (suc n) id xs v w at same)

-- who owes

pub owing_set : (views : List View) (id : ℕ) (v w : View) (b : Bool) → get_elem? views id ≡ some v → w.own.owes ≡ b → (call : ℕ) → with_number b id (λ c. owes_in (slice_get views c)) call ≡ owes_in (slice_get (set views id w) call)
owing_set views id v w b at is call = dite (ℕ_discrete call id)
    (λ same. let e : owes_in (slice_get (set views id w) call) ≡ b = ap (λ (z : ℕ). owes_in (slice_get (set views id w) z)) same ∙ (ap owes_in (set_got views id v w at) ∙ is) in rw (eq-eqb call id same, e) refl)
    (λ ne. rw (ne_eqb call id ne, set_other views id call w ne) refl)

pub owing_same : (views : List View) (id : ℕ) (v w : View) → get_elem? views id ≡ some v → w.own.owes ≡ v.own.owes → (call : ℕ) → owes_in (slice_get views call) ≡ owes_in (slice_get (set views id w) call)
owing_same views id v w at is call = dite (ℕ_discrete call id)
    (λ same. ap (λ (z : ℕ). owes_in (slice_get views z)) same ∙ (ap owes_in (got views id v at) ∙ (sym is ∙ (sym (ap owes_in (set_got views id v w at)) ∙ ap (λ (z : ℕ). owes_in (slice_get (set views id w) z)) (sym same)))))
    (λ ne. ap owes_in (sym (set_other views id call w ne)))

-- the place of a run in the history

front : {X : Type 0} (xs ys : List X) (i : ℕ) → i < length xs → slice_get (xs ++ ys) i ≡ slice_get xs i
front [] ys i within = absurd (omega arith)
front (x ∷ xs) ys zero within = refl
front (x ∷ xs) ys (suc i) within = front xs ys i (omega arith)

back : {X : Type 0} (xs ys : List X) (i k : ℕ) → k ≡ length xs + i → slice_get (xs ++ ys) k ≡ slice_get ys i
back [] ys i k at = ap (slice_get ys) (omega arith)
back (x ∷ xs) ys i zero at = absurd (omega arith)
back (x ∷ xs) ys i (suc k) at = back xs ys i k (omega arith)

pair_in : (number first : ℕ) (items : List ℕ) (k : ℕ) → k < length items → slice_get (pairs_of number first items) k ≡ Some (number, first + k)
pair_in number first [] k within = absurd (omega arith)
pair_in number first (x ∷ xs) zero within = ap (λ (n : ℕ). Some (number, n)) (sym (add-zero first))
pair_in number first (x ∷ xs) (suc k) within = let e : first + 1 + k ≡ first + suc k = omega arith in pair_in number (first + 1) xs k (omega arith) ∙ ap (λ (n : ℕ). Some (number, n)) e

pub pair_there : (number first p k i : ℕ) (runs : Log) (o : Owned Batch) → Adjacent first runs → get_elem? runs k ≡ some o → i < length o.2.places → o.2.start + i ≡ first + p → slice_get (pairs_from number (map run_in runs)) p ≡ Some (number + k, i)
pair_there number first p k i [] o c at below is = absurd (some-ne-none o (sym at))
pair_there number first p zero i (x ∷ xs) o c at below is =
    let same : x ≡ o = some-injective x o at in let st : o.2.start ≡ first = ap (λ (z : Owned Batch). z.2.start) (sym same) ∙ c.0 in let here : p ≡ i = omega arith in
    let n = length-map x.2.places item_of in let m = length-pairs_of number 0 (map item_of x.2.places) in let long : length x.2.places ≡ length o.2.places = ap (λ (z : Owned Batch). length z.2.places) same in
    front (pairs_of number 0 (map item_of x.2.places)) (pairs_from (number + 1) (map run_in xs)) p (omega arith)
    ∙ (pair_in number 0 (map item_of x.2.places) p (omega arith) ∙ (let e : number ≡ number + 0 = omega arith in λ z. Some (e z, (zero-add p ∙ here) z)))
pair_there number first p (suc k) i (x ∷ xs) o c at below is =
    let n = length-map x.2.places item_of in let m = length-pairs_of number 0 (map item_of x.2.places) in let s = lies (first + length x.2.places) xs k o c.1 at in let st = s.start in
    let e : number + 1 + k ≡ number + suc k = omega arith in
    back (pairs_of number 0 (map item_of x.2.places)) (pairs_from (number + 1) (map run_in xs)) (s.at + i) p (omega arith)
    ∙ (pair_there (number + 1) (first + length x.2.places) (s.at + i) k i xs o c.1 at below (omega arith) ∙ ap (λ (z : ℕ). Some (z, i)) e)

pub and_false : (a : Bool) → (a && false) ≡ false
and_false true = refl
and_false false = refl

pub not_up : (e : Cell) → e.stage < 2 → is_published e ≡ false
not_up e h = let n : ℕ = e.stage in dite (ℕ_discrete n 0) (λ z. let t : is_published e ≡ false = grind (arith, nat_tests) in t) (λ z. let t : is_published e ≡ false = grind (arith, nat_tests) in t)

pub not_forgotten : (q : Positions) (gate : ℕ) (views : List View) (l : ViewsShow q (map part_of views)) → IsSettled q views → is_forgotten (chain_of q l.lists.runs gate views) ≡ false
not_forgotten q gate views l settled = let c : Chain = chain_of q l.lists.runs gate views in let ps : List (ℕ × ℕ) = pairs (map run_in l.lists.runs) in let t : ℕ = q.taken in
    let n = length-pairs_from 0 (map run_in l.lists.runs) in let m = long_is q l.lists.runs l.lists.runs_are.flat in
    let first : slice_get (left_pairs c.notes) 0 ≡ slice_get ps t = slice_get-drop ps t 0 ∙ ap (slice_get ps) (add-zero t) in
    ap (forgotten c) first ∙ dite (dec_lt t (length q.places))
    (λ below. dite (dec_lt (stage_at q t) 2)
    (λ low. let e : is_raised c.notes (get_or ps t (0, 0)) ≡ false = up_is q l.lists.runs l.lists.runs_are.flat t below ∙ not_up (place_at q t) low in
    ap (forgotten c) (slice_get-get_or ps t (0, 0) (omega arith)) ∙ (rw (e) refl))
    (λ up. let o = settled (omega arith) in let f = l.lists.runs_are.filed.listed o.owner o.view.own.runs o.number o.run (at_map runs_of (map part_of views) o.owner (part_of o.view) (at_map part_of views o.owner o.view o.is_view)) o.has in
    let entry : Owned Batch = (o.owner, o.number, o.run) in let solid = l.lists.runs_are.solid f.0 entry f.1 in let st = o.start in
    let there = pair_there 0 q.first t f.0 0 l.lists.runs entry l.lists.runs_are.adjacent f.1 solid (omega arith) in
    let run : slice_get c.notes.history (0 + f.0) ≡ Some (run_in entry) = ap (slice_get (map run_in l.lists.runs)) (zero-add f.0) ∙ (slice_get-map run_in l.lists.runs f.0 ∙ ap (option_map run_in) (got l.lists.runs f.0 entry f.1)) in
    let owed : owes c (slice_get c.notes.history (0 + f.0)) ≡ true = ap (owes c) run ∙ (ap owes_in (got views o.owner o.view o.is_view) ∙ o.owes) in
    ap (forgotten c) there ∙ (ap (λ (z : Bool). is_raised c.notes (0 + f.0, 0) && not z) owed ∙ and_false (is_raised c.notes (0 + f.0, 0)))))
    (λ past. ap (forgotten c) (slice_get_past ps t (omega arith)))

-- the chain is lawful

pub not_idle : (gate : ℕ) → gate ≢ 0 → is_idle (gate_of gate) ≡ false
not_idle zero up = absurd (up refl)
not_idle (suc zero) up = refl
not_idle (suc (suc n)) up = refl

pub chain_is_lawful : (q : Positions) (gate : ℕ) (views : List View) (l : ViewsShow q (map part_of views)) → Lawful q → GateShows q gate views → IsLawfulChain (chain_of q l.lists.runs gate views)
chain_is_lawful q gate views l lawful g = record {
  notes = is_lawful_queue q l.lists.runs lawful (history_of q (map part_of views) l);
  run = dite (ℕ_discrete gate 0)
      (λ down. ap is_some (runner_none 0 views (g.still down)) ∙ ap (λ (z : ℕ). not (is_idle (gate_of z))) (sym down))
      (λ up. let r = g.runs up in ap is_some (runner_at 0 r.number views r.view r.is_view r.runner (others_still q gate views r.number r.view g r.is_view r.runner)) ∙ ap not (sym (not_idle gate up)));
  promised = dite (ℕ_discrete gate 0)
      (λ down. ap (λ (z : Bool). is_idle (gate_of gate) && z) (not_forgotten q gate views l (g.idle down)) ∙ and_false (is_idle (gate_of gate)))
      (λ up. ap (λ (z : Bool). z && is_forgotten (chain_of q l.lists.runs gate views)) (not_idle gate up));
}

-- the events on any chain

pub claim_note_goes : (call x : ℕ) (c : Chain) (r : Queue) → x < 65536 → claim 1 call (x ∷ []) c.notes ≡ Ok r → claim_note call (x ∷ []) c ≡ Ok (record c { notes = r })
claim_note_goes call x c r bounded h = let a : ltb 65535 x ≡ false = grind (arith, nat_tests) in rw (a, h) refl

pub raise_note_goes : (call number i : ℕ) (c : Chain) (r : Queue) → raise call number i c.notes ≡ Ok r → raise_note call number i c ≡ Ok (record c { notes = r; owing = with_number true call c.owing })
raise_note_goes call number i c r h = rw (h) refl

mine : (call : ℕ) (runner : Option ℕ) → runner ≡ Some call → not (is_call call runner) ≡ false
mine call runner is = ap (λ (z : Option ℕ). not (is_call call z)) is ∙ ap not (eq-eqb call call refl)

pub take_note_goes : (call : ℕ) (c : Chain) (r : Queue) → take_first 1 1 c.notes ≡ Ok r → c.runner ≡ Some call → take_note call 1 c ≡ Ok (record c { notes = r })
take_note_goes call c r h is = rw (h, mine call c.runner is) refl

pub notify_goes : (call : ℕ) (c : Chain) → c.owing call ≡ true → notify call c ≡ Ok (record c { gate = More; runner = runner_after call c.gate c.runner; owing = with_number false call c.owing })
notify_goes call c h = rw (h) refl

pub round_goes : (call : ℕ) (c : Chain) → c.runner ≡ Some call → round call c ≡ Ok (record c { gate = Running })
round_goes call c is = rw (mine call c.runner is) refl

pub leave_goes : (call : ℕ) (c : Chain) → is_more c.gate ≡ false → is_forgotten c ≡ false → c.runner ≡ Some call → leave call c ≡ Ok (record c { gate = Idle; runner = None })
leave_goes call c a b is = rw (a, b, mine call c.runner is) refl

after_busy : (id n : ℕ) (r : Option ℕ) → n ≢ 0 → runner_after id (gate_of n) r ≡ r
after_busy id zero r h = absurd (h refl)
after_busy id (suc zero) r h = refl
after_busy id (suc (suc n)) r h = refl

-- the steps
module _ (o : GatedQueue) (views : List View) (id : ℕ) (v w : View) (shown : AreShown o views) (at : get_elem? views id ≡ some v) (lawful : Lawful o.queue) where
  abbrev q : Positions
  q = o.queue

  abbrev l : ViewsShow q (map part_of views)
  l = shown.listed

  abbrev c : Chain
  c = chain_of q l.lists.runs o.gate views

  at_part : get_elem? (map part_of views) id ≡ some (part_of v)
  at_part = at_map part_of views id v at

  sees : (p : GatedQueue) → w.seen.object ≡ p → Grows (seen_of w) p.queue
  sees p is = subst (λ (z : GatedQueue). Grows (seen_of w) z.queue) is (grows_refl (seen_of w))

  the_runner : v.own.runner ≡ true → c.runner ≡ Some id
  the_runner r = runner_at 0 id views v at r (others_still q o.gate views id v shown.gate at r) ∙ ap Some (zero-add id)

  the_owing : v.own.owes ≡ true → c.owing id ≡ true
  the_owing owes = ap owes_in (got views id v at) ∙ owes

  -- an event by which the chain is then r
  is_event : (p : GatedQueue) (event : Chain → Result Chain Refusal) (r : Chain) (new : ViewsShow p.queue (set (map part_of views) id (part_of w))) → event c ≡ Ok r → r.notes ≡ queue_of p.queue new.lists.runs → r.gate ≡ gate_of p.gate → r.runner ≡ runner_from 0 (set views id w)
      → ((call : ℕ) → r.owing call ≡ owes_in (slice_get (set views id w) call)) → IsChainEvent o p views shown id w event
  is_event p event r new e notes gate runner owing = record { new_shown = new; lawful = chain_is_lawful q o.gate views l lawful shown.gate; made = e ∙ (λ k. Ok (record { notes = notes k; gate = gate k; runner = runner k; owing = λ n. owing n k })) }

  pub claim_event : (x : ℕ) → x < 65536 → length q.places + 1 ≤ q.taken + q.room → q.shut ≡ false → w.seen.object ≡ with_note o x → w.own ≡ record v.own { runs = v.own.runs ++ record { start = head_of q; places = map fresh (x ∷ []) } ∷ [] } → IsChainEvent o (with_note o x) views shown id w (claim_note id (x ∷ []))
  unfolding listed_claim
  claim_event x bounded room is_open is own = let xs : List ℕ = x ∷ [] in let following = lawful.taken_within in let n = left_long q l.lists.runs l.lists.runs_are.flat in
      is_event (with_note o x) (claim_note id xs) _ (listed_claim q (map part_of views) id (part_of v) (part_of w) xs l at_part following is_open (omega arith) (λ i. (own i).runs) (λ i. (own i).takes) (sees (with_note o x) is))
      (claim_note_goes id x c (after_claim id xs c.notes) bounded (claim_goes 1 id xs c.notes (omega arith) (omega arith) is_open (omega arith)))
      (claimed_is q l.lists.runs id (length v.own.runs) xs) refl (sym (runner_set 0 id views v w at (λ i. (own i).runner))) (owing_same views id v w at (λ i. (own i).owes))

  pub raise_event : (m p : ℕ) (e : Batch) → get_elem? v.own.runs m ≡ some e → 0 < length e.places → e.start + 0 ≡ q.first + p → q.taken ≤ p → (get_or e.places 0 blank).stage < 2 → stage_at q p ≤ 2
      → w.seen.object ≡ record o { queue = with_write q p 2 } → w.own ≡ record v.own { runs = set v.own.runs m (with_stage e 0 2); owes = true }
      → (k : ℕ) × IsChainEvent o (record o { queue = with_write q p 2 }) views shown id w (raise_note id k 0) × (get_elem? l.lists.runs k ≡ some (id, m, e))
  unfolding listed_write
  raise_event m p e has below start ahead low more is own = let o' : GatedQueue = record o { queue = with_write q p 2 } in let r = l.lists.runs_are.filed.listed id v.own.runs m e (at_map runs_of (map part_of views) id (part_of v) at_part) has in (
    r.0,
    is_event o' (raise_note id r.0 0) _ (listed_write q (map part_of views) id m 0 2 p (part_of v) (part_of w) e l at_part has below start ahead more (λ i. (own i).runs) (λ i. (own i).takes) (sees o' is))
        (raise_note_goes id r.0 0 c (after_raise r.0 0 c.notes) (raise_goes l.lists.runs r.0 id m 0 e r.1 below q low))
        (raised_is l.lists.runs r.0 id m 0 e r.1 below q p) refl (sym (runner_set 0 id views v w at (λ i. (own i).runner))) (owing_set views id v w true at (λ i. (own i).owes)),
    r.1,
  )

  pub take_event : v.own.runner ≡ true → q.taken + 1 ≤ length q.places → 2 ≤ stage_at q q.taken → w.seen.object ≡ with_taken o → w.own ≡ record v.own { takes = v.own.takes ++ taking q ∷ []; taken = v.own.taken + 1; saw = false } → IsChainEvent o (with_taken o) views shown id w (take_note id 1)
  unfolding listed_take
  take_event r long up is own = is_event (with_taken o) (take_note id 1) _ (listed_take q (map part_of views) id 1 (part_of v) (part_of w) l at_part (omega arith) long (λ i. (own i).takes) (λ i. (own i).runs) (sees (with_taken o) is))
      (take_note_goes id c (after_take 1 c.notes) (take_goes 1 1 c.notes (omega arith) (omega arith) (first_raised q l.lists.runs 1 l.lists.runs_are.flat long (λ i h. let e : q.taken ≡ q.taken + i = omega arith in subst (λ (z : ℕ). 2 ≤ stage_at q z) e up))) (the_runner r))
      refl refl (sym (runner_set 0 id views v w at (λ i. (own i).runner))) (owing_same views id v w at (λ i. (own i).owes))

  -- the gate is set, and the queue stays
  gate_event : (gate : ℕ) (event : Chain → Result Chain Refusal) (r : Chain) → w.seen.object ≡ with_gate o gate → w.own.runs ≡ v.own.runs → w.own.takes ≡ v.own.takes → event c ≡ Ok r → r.notes ≡ c.notes → r.gate ≡ gate_of gate → r.runner ≡ runner_from 0 (set views id w)
      → ((call : ℕ) → r.owing call ≡ owes_in (slice_get (set views id w) call)) → IsChainEvent o (with_gate o gate) views shown id w event
  unfolding listed_look
  gate_event gate event r is runs takes e notes set_to runner owing = is_event (with_gate o gate) event r (listed_look q (map part_of views) id (part_of v) (part_of w) l at_part runs takes (sees (with_gate o gate) is)) e notes set_to runner owing

  pub won_event : o.gate ≡ 0 → v.own.owes ≡ true → w.seen.object ≡ with_gate o 2 → w.own ≡ with_turn q.taken (record v.own { owes = false }) → IsChainEvent o (with_gate o 2) views shown id w (notify id)
  won_event down owes is own = let here : get_elem? (set views id w) id ≡ some w = set_here views id w (at_below views id v at) in
      let others = λ (j : ℕ) (u : View) (has : get_elem? (set views id w) j ≡ some u) (ne : j ≢ id). shown.gate.still down j u (sym (set_else views id j w ne) ∙ has) in
      gate_event 2 (notify id) _ is (λ i. (own i).runs) (λ i. (own i).takes) (notify_goes id c (the_owing owes)) refl refl
      (ap (λ (z : ℕ). runner_after id (gate_of z) c.runner) down ∙ sym (runner_at 0 id (set views id w) w here (λ i. (own i).runner) others ∙ ap Some (zero-add id))) (owing_set views id v w false at (λ i. (own i).owes))

  pub notify_event : o.gate ≢ 0 → v.own.owes ≡ true → w.seen.object ≡ with_gate o 2 → w.own ≡ record v.own { owes = false } → IsChainEvent o (with_gate o 2) views shown id w (notify id)
  notify_event up owes is own = gate_event 2 (notify id) _ is (λ i. (own i).runs) (λ i. (own i).takes) (notify_goes id c (the_owing owes)) refl refl
      (after_busy id o.gate c.runner up ∙ sym (runner_set 0 id views v w at (λ i. (own i).runner))) (owing_set views id v w false at (λ i. (own i).owes))

  pub round_event : v.own.runner ≡ true → w.seen.object ≡ with_gate o 1 → w.own ≡ record v.own { saw = false } → IsChainEvent o (with_gate o 1) views shown id w (round id)
  round_event r is own = gate_event 1 (round id) _ is (λ i. (own i).runs) (λ i. (own i).takes) (round_goes id c (the_runner r)) refl refl (sym (runner_set 0 id views v w at (λ i. (own i).runner))) (owing_same views id v w at (λ i. (own i).owes))

  pub leave_event : o.gate ≡ 1 → v.own.runner ≡ true → v.own.saw ≡ true → w.seen.object ≡ with_gate o 0 → w.own ≡ record v.own { runner = false; saw = false } → IsChainEvent o (with_gate o 0) views shown id w (leave id)
  leave_event one r saw is own = let none = λ (j : ℕ) (u : View) (has : get_elem? (set views id w) j ≡ some u). ⊎_elim (λ t. ap (λ (z : View). z.own.runner) (sym t.1) ∙ (λ i. (own i).runner)) (λ t. others_still q o.gate views id v shown.gate at r j u t.1 t.0) (at_set views id j w u has) in
      gate_event 0 (leave id) _ is (λ i. (own i).runs) (λ i. (own i).takes) (leave_goes id c (ap (λ (z : ℕ). is_more (gate_of z)) one) (not_forgotten q o.gate views l (shown.gate.seen id v at r saw one)) (the_runner r))
      refl refl (sym (runner_none 0 (set views id w) none)) (owing_same views id v w at (λ i. (own i).owes))
