-- Each step on a queue's positions is one event of the queue that they are, or none.
use Rattle.table_theory.proofs.Common.{◌≡◌, ℕ, zero, suc, ◌+◌, ◌<◌, ◌≤◌, ◌≢◌, Bool, true, false, List, [], ◌∷◌, ◌++◌, ◌∙◌, map, length, take, drop, set, get_or, refl, sym, ap, ap₂, subst, arith, slice_get, eqb, eq-eqb, ne_eqb, get_or-set_same, get_or-set_other, length-map, map-append, map-set, le-leb, list_all, if◌then◌else◌, some, some-injective, some-ne-none, dite, ℕ_discrete, get_elem?, Cell, Batch, Positions, QueueView, pairs, left, is_raised, blank, Grows, item_of, stage_at, head_of, tail_of, Lawful, fresh, with_claim, with_write, with_take, with_shut, Owned, moved, all_places, ViewsShow, with_stage, runs_of, run_in, is_published, published_in, queue_of, IsHistory, set_again, at_map}
use Rattle.std.proofs.Common.{◌&&◌, ◌||◌, Some, ltb, leb, Result, Ok, option_map}
use Rattle.std.proofs.lemmas.List.{get_or-drop}
use Rattle.std.proofs.lemmas.Option.{slice_get-map}
use Rattle.std.proofs.lemmas.Bool.Decides.{nat_tests}
use Rattle.event_theory.specs.declared.refusal.Refusal.{Refusal}
use Rattle.event_theory.specs.Runs.{Run}
use Rattle.event_theory.specs.Queues.{Queue, left_pairs, first_are_raised, after_claim, after_raise, after_take, claim, raise, raise_of, take_first, join_queue, join_run}
use Rattle.event_theory.specs.Marks.{shut}
use Rattle.table_theory.specs.QueueOf.{IsEvent, no_event}
use Rattle.event_theory.proofs.Lists.Histories.{same_set}
use Rattle.table_theory.proofs.Leaving.{fresh_items, same_items}
use Rattle.table_theory.proofs.Positioned.{fresh_written}
use Rattle.table_theory.proofs.Logs.{moved_entry}
use Rattle.table_theory.proofs.Listing.{listed_claim, listed_write, listed_take, listed_shut}
use Rattle.table_theory.proofs.QueueOf.{Log, up_of, all_up, list_all_mapped, left_long, is_lawful_queue}

pub history_of : (q : Positions) (parts : List QueueView) (l : ViewsShow q parts) → IsHistory q l.lists.runs
history_of q parts l = let a = l.lists.runs_are in record { solid = a.solid; places = a.flat; adjacent = a.adjacent }

-- a step by which the views that showed q show r
abbrev event_by : (q r : Positions) (parts : List QueueView) (j : ℕ) (v w : QueueView) (event : Queue → Result Queue Refusal) (l : ViewsShow q parts) → get_elem? parts j ≡ some v → Lawful q → (new : ViewsShow r (set parts j w)) → event (queue_of q l.lists.runs) ≡ Ok (queue_of r new.lists.runs) → IsEvent q r j v w event
event_by q r parts j v w event l at lawful new made = record { views = parts; here = at; shown = l; new_shown = new; lawful = is_lawful_queue q l.lists.runs lawful (history_of q parts l); made = made }

not_up : (e : Cell) → e.stage < 2 → is_published e ≡ false
not_up e h = let n : ℕ = e.stage in let t : leb 2 n ≡ false = grind (arith, nat_tests) in t

up : (e : Cell) → 2 ≤ e.stage → is_published e ≡ true
up e h = le-leb 2 e.stage h

up_more : (runs : Log) (o : Owned Batch) → ((i : ℕ) → published_in (Some o) i ≡ false) → (r i : ℕ) → published_in (slice_get runs r) i ≡ published_in (slice_get (runs ++ o ∷ []) r) i
up_more [] o h zero i = sym (h i)
up_more [] o h (suc r) i = refl
up_more (x ∷ xs) o h zero i = refl
up_more (x ∷ xs) o h (suc r) i = up_more xs o h r i

-- the queue after a claim
pub claimed_is : (q : Positions) (runs : Log) (j n : ℕ) (xs : List ℕ) → after_claim j xs (queue_of q runs) ≡ queue_of (with_claim q xs) (runs ++ (j, n, record { start = head_of q; places = map fresh xs }) ∷ [])
claimed_is q runs j n xs = let e : Batch = record { start = head_of q; places = map fresh xs } in let o : Owned Batch = (j, n, e) in
    let r : run_in o ≡ record { call = j; items = xs } = ap (λ (z : List ℕ). let run : Run = record { call = j; items = z } in run) (fresh_items xs) in
    let h : map run_in runs ++ record { call = j; items = xs } ∷ [] ≡ map run_in (runs ++ o ∷ []) = ap (λ (z : Run). map run_in runs ++ z ∷ []) (sym r) ∙ sym (map-append run_in runs (o ∷ [])) in
    let s = same_set (queue_of q runs).raised (queue_of (with_claim q xs) (runs ++ o ∷ [])).raised
    (up_more runs o (λ i. not_up (get_or (map fresh xs) i blank) (let w = fresh_written xs i in omega arith))) in
    ap₂ (λ (x : List Run) (y : ℕ → ℕ → Bool). let z : Queue = record { history = x; raised = y; taken = q.taken; capacity = q.room; shut = q.shut } in z) h s

pub claim_goes : (longest call : ℕ) (items : List ℕ) (q : Queue) → 0 < length items → length items ≤ longest → q.shut ≡ false → length (left q) + length items ≤ q.capacity
    → claim longest call items q ≡ Ok (after_claim call items q)
claim_goes longest call items q some_items short is_open room =
    let a : eqb (length items) 0 ≡ false = grind (arith, nat_tests) in
    let b : ltb longest (length items) ≡ false = grind (arith, nat_tests) in
    let d : ltb q.capacity (length (left q) + length items) ≡ false = grind (arith, nat_tests) in
    rw (a, b, is_open, d) refl

pub claim_event : (q : Positions) (parts : List QueueView) (j : ℕ) (v w : QueueView) (xs : List ℕ) → ViewsShow q parts → get_elem? parts j ≡ some v → Lawful q → 0 < length xs → length q.places + length xs ≤ q.taken + q.room → q.shut ≡ false
    → w.runs ≡ v.runs ++ record { start = head_of q; places = map fresh xs } ∷ [] → w.takes ≡ v.takes → Grows w.queue (with_claim q xs)
    → IsEvent q (with_claim q xs) j v w (claim q.room j xs)
unfolding listed_claim
claim_event q parts j v w xs l at lawful some_items room is_open runs takes grown = let n = left_long q l.lists.runs l.lists.runs_are.flat in let following = lawful.taken_within in
    event_by q (with_claim q xs) parts j v w (claim q.room j xs) l at lawful (listed_claim q parts j v w xs l at lawful.taken_within is_open some_items runs takes grown)
    (claim_goes q.room j xs (queue_of q l.lists.runs) some_items (omega arith) is_open (omega arith) ∙ ap Ok (claimed_is q l.lists.runs j (length v.runs) xs))

pub got : {A : Type 0} (l : List A) (k : ℕ) (a : A) → get_elem? l k ≡ some a → slice_get l k ≡ Some a
got [] k a e = absurd (some-ne-none a (sym e))
got (x ∷ xs) zero a e = ap Some (some-injective x a e)
got (x ∷ xs) (suc k) a e = got xs k a e

pub set_got : {A : Type 0} (l : List A) (k : ℕ) (a b : A) → get_elem? l k ≡ some a → slice_get (set l k b) k ≡ Some b
set_got [] k a b e = absurd (some-ne-none a (sym e))
set_got (x ∷ xs) zero a b e = refl
set_got (x ∷ xs) (suc k) a b e = set_got xs k a b e

pub set_other : {A : Type 0} (l : List A) (k r : ℕ) (b : A) → r ≢ k → slice_get (set l k b) r ≡ slice_get l r
set_other [] k r b n = refl
set_other (x ∷ xs) zero zero b n = absurd (n refl)
set_other (x ∷ xs) zero (suc r) b n = refl
set_other (x ∷ xs) (suc k) zero b n = refl
set_other (x ∷ xs) (suc k) (suc r) b n = set_other xs k r b (λ e. n (ap suc e))

-- a run of the log, and the log after one of its places was written
module _ (runs : Log) (k j m i : ℕ) (e : Batch) (at : get_elem? runs k ≡ some (j, m, e)) (below : i < length e.places) where
  abbrev here : ℕ → Owned Batch
  here n = (j, m, with_stage e i n)

  same_history : (n : ℕ) → map run_in (set runs k (here n)) ≡ map run_in runs
  same_history n = let is : run_in (here n) ≡ run_in (j, m, e) = ap (λ (z : List ℕ). let run : Run = record { call = j; items = z } in run) (same_items e.places i n) in
      map-set run_in runs k (here n) ∙ (ap (set (map run_in runs) k) is ∙ set_again (map run_in runs) k (run_in (j, m, e)) (at_map run_in runs k (j, m, e) at))

  there : (n x : ℕ) → published_in (slice_get (set runs k (here n)) k) x ≡ is_published (get_or (set e.places i (record { item = (get_or e.places i blank).item; stage = n })) x blank)
  there n x = ap (λ o. published_in o x) (set_got runs k (j, m, e) (here n) at)

  was : (x : ℕ) → published_in (slice_get runs k) x ≡ is_published (get_or e.places x blank)
  was x = ap (λ o. published_in o x) (got runs k (j, m, e) at)

  else_where : (n r x : ℕ) → r ≢ k → published_in (slice_get (set runs k (here n)) r) x ≡ published_in (slice_get runs r) x
  else_where n r x ne = ap (λ o. published_in o x) (set_other runs k r (here n) ne)

  written_here : (n : ℕ) → get_or (set e.places i (record { item = (get_or e.places i blank).item; stage = n })) i blank ≡ record { item = (get_or e.places i blank).item; stage = n }
  written_here n = get_or-set_same e.places i (record { item = (get_or e.places i blank).item; stage = n }) blank below

  written_else : (n x : ℕ) → x ≢ i → get_or (set e.places i (record { item = (get_or e.places i blank).item; stage = n })) x blank ≡ get_or e.places x blank
  written_else n x ne = get_or-set_other e.places i x (record { item = (get_or e.places i blank).item; stage = n }) blank ne

  up_raised : (r x : ℕ) → ((eqb r k && eqb x i) || published_in (slice_get runs r) x) ≡ published_in (slice_get (set runs k (here 2)) r) x
  up_raised r x = dite (ℕ_discrete r k)
      (λ is. dite (ℕ_discrete x i)
      (λ is'. let z : published_in (slice_get (set runs k (here 2)) r) x ≡ true = ap₂ (λ (a b : ℕ). published_in (slice_get (set runs k (here 2)) a) b) is is' ∙ (there 2 i ∙ ap is_published (written_here 2)) in
      rw (eq-eqb r k is, eq-eqb x i is', z) refl)
      (λ ne. let z : published_in (slice_get (set runs k (here 2)) r) x ≡ published_in (slice_get runs r) x = ap (λ (a : ℕ). published_in (slice_get (set runs k (here 2)) a) x) is ∙ (there 2 x ∙ (ap is_published (written_else 2 x ne) ∙ (sym (was x) ∙ ap (λ (a : ℕ). published_in (slice_get runs a) x) (sym is)))) in
      rw (eq-eqb r k is, ne_eqb x i ne, z) refl))
      (λ ne. rw (ne_eqb r k ne, else_where 2 r x ne) refl)

  up_stored : (get_or e.places i blank).stage < 2 → (r x : ℕ) → published_in (slice_get (set runs k (here 1)) r) x ≡ published_in (slice_get runs r) x
  up_stored low r x = dite (ℕ_discrete r k)
      (λ is. ap (λ (a : ℕ). published_in (slice_get (set runs k (here 1)) a) x) is ∙ (there 1 x ∙ (dite (ℕ_discrete x i)
      (λ is'. ap (λ (a : ℕ). is_published (get_or (set e.places i (record { item = (get_or e.places i blank).item; stage = 1 })) a blank)) is' ∙ (ap is_published (written_here 1) ∙ sym (ap (λ (a : ℕ). is_published (get_or e.places a blank)) is' ∙ not_up (get_or e.places i blank) low)))
      (λ ne. ap is_published (written_else 1 x ne))
      ∙ (sym (was x) ∙ ap (λ (a : ℕ). published_in (slice_get runs a) x) (sym is)))))
      (λ ne. else_where 1 r x ne)

  pub raised_is : (q : Positions) (p : ℕ) → after_raise k i (queue_of q runs) ≡ queue_of (with_write q p 2) (set runs k (here 2))
  raised_is q p = ap₂ (λ (x : List Run) (y : ℕ → ℕ → Bool). let z : Queue = record { history = x; raised = y; taken = q.taken; capacity = q.room; shut = q.shut } in z) (sym (same_history 2))
      (same_set (after_raise k i (queue_of q runs)).raised (queue_of (with_write q p 2) (set runs k (here 2))).raised up_raised)

  pub stored_is : (q : Positions) (p : ℕ) → (get_or e.places i blank).stage < 2 → queue_of q runs ≡ queue_of (with_write q p 1) (set runs k (here 1))
  stored_is q p low = ap₂ (λ (x : List Run) (y : ℕ → ℕ → Bool). let z : Queue = record { history = x; raised = y; taken = q.taken; capacity = q.room; shut = q.shut } in z) (sym (same_history 1))
      (same_set (queue_of q runs).raised (queue_of (with_write q p 1) (set runs k (here 1))).raised (λ r x. sym (up_stored low r x)))

  pub raise_goes : (q : Positions) → (get_or e.places i blank).stage < 2 → raise j k i (queue_of q runs) ≡ Ok (after_raise k i (queue_of q runs))
  raise_goes q low = let n = length-map e.places item_of in
      let a : leb (length (map item_of e.places)) i ≡ false = grind (arith, nat_tests) in
      let b : eqb j j ≡ true = eq-eqb j j refl in
      let c : published_in (slice_get runs k) i ≡ false = was i ∙ not_up (get_or e.places i blank) low in
      ap (raise_of j k i (queue_of q runs)) (slice_get-map run_in runs k ∙ ap (option_map run_in) (got runs k (j, m, e) at)) ∙ rw (a, b, c) refl

-- the number of the run that a view's batch is
abbrev pub run_number : (q : Positions) (parts : List QueueView) (j m : ℕ) (v : QueueView) (e : Batch) → ViewsShow q parts → get_elem? parts j ≡ some v → get_elem? v.runs m ≡ some e → ℕ
run_number q parts j m v e l at has = (l.lists.runs_are.filed.listed j v.runs m e (at_map runs_of parts j v at) has).0

pub run_is : (q : Positions) (parts : List QueueView) (j m : ℕ) (v : QueueView) (e : Batch) (l : ViewsShow q parts) (at : get_elem? parts j ≡ some v) (has : get_elem? v.runs m ≡ some e) → get_elem? l.lists.runs (run_number q parts j m v e l at has) ≡ some (j, m, e)
run_is q parts j m v e l at has = (l.lists.runs_are.filed.listed j v.runs m e (at_map runs_of parts j v at) has).1

module _ (q : Positions) (parts : List QueueView) (j m i p : ℕ) (v w : QueueView) (e : Batch) (l : ViewsShow q parts) (at : get_elem? parts j ≡ some v) (has : get_elem? v.runs m ≡ some e) (below : i < length e.places)
    (is : e.start + i ≡ q.first + p) (lawful : Lawful q) (ahead : q.taken ≤ p) (low : (get_or e.places i blank).stage < 2) where
  pub raise_event : stage_at q p ≤ 2 → w.runs ≡ set v.runs m (with_stage e i 2) → w.takes ≡ v.takes → Grows w.queue (with_write q p 2) → IsEvent q (with_write q p 2) j v w (raise j (run_number q parts j m v e l at has) i)
  unfolding listed_write
  raise_event more runs takes grown = let r = l.lists.runs_are.filed.listed j v.runs m e (at_map runs_of parts j v at) has in
      event_by q (with_write q p 2) parts j v w (raise j r.0 i) l at lawful (listed_write q parts j m i 2 p v w e l at has below is ahead more runs takes grown) (raise_goes l.lists.runs r.0 j m i e r.1 below q low ∙ ap Ok (raised_is l.lists.runs r.0 j m i e r.1 below q p))

  -- the raise, and its run in the history
  pub raised_event : stage_at q p ≤ 2 → w.runs ≡ set v.runs m (with_stage e i 2) → w.takes ≡ v.takes → Grows w.queue (with_write q p 2)
      → (k : ℕ) × (event : IsEvent q (with_write q p 2) j v w (raise j k i)) × (get_elem? event.shown.lists.runs k ≡ some (j, m, e))
  unfolding raise_event
  raised_event more runs takes grown = (run_number q parts j m v e l at has, raise_event more runs takes grown, run_is q parts j m v e l at has)

  pub store_event : stage_at q p ≤ 1 → w.runs ≡ set v.runs m (with_stage e i 1) → w.takes ≡ v.takes → Grows w.queue (with_write q p 1) → IsEvent q (with_write q p 1) j v w no_event
  unfolding listed_write
  store_event more runs takes grown = let r = l.lists.runs_are.filed.listed j v.runs m e (at_map runs_of parts j v at) has in
      event_by q (with_write q p 1) parts j v w no_event l at lawful (listed_write q parts j m i 1 p v w e l at has below is ahead more runs takes grown) (ap Ok (stored_is l.lists.runs r.0 j m i e r.1 below q p low))

pub take_goes : (longest count : ℕ) (q : Queue) → 0 < count → count ≤ longest → first_are_raised count q ≡ true → take_first longest count q ≡ Ok (after_take count q)
take_goes longest count q some_items short first =
    let a : eqb count 0 ≡ false = grind (arith, nat_tests) in
    let b : ltb longest count ≡ false = grind (arith, nat_tests) in
    rw (a, b, first) refl

pub first_raised : (q : Positions) (runs : Log) (n : ℕ) → all_places runs ≡ q.places → q.taken + n ≤ length q.places → ((i : ℕ) → i < n → 2 ≤ stage_at q (q.taken + i)) → first_are_raised n (queue_of q runs) ≡ true
first_raised q runs n same long up_to =
    let m = left_long q runs same in
    let a : leb n (length (left (queue_of q runs))) ≡ true = le-leb n (length (left (queue_of q runs))) (omega arith) in
    let b : list_all (is_raised (queue_of q runs)) (take n (left_pairs (queue_of q runs))) ≡ true =
    list_all_mapped (is_raised (queue_of q runs)) (pairs (map run_in runs)) q.places n q.taken (up_of q runs ∙ ap (map is_published) same)
    ∙ all_up n (drop q.taken q.places) (λ i h. subst (λ (z : Cell). 2 ≤ z.stage) (sym (get_or-drop q.taken q.places i blank)) (up_to i h)) in
    rw (a, b) refl

pub take_event : (q : Positions) (parts : List QueueView) (j n : ℕ) (v w : QueueView) → ViewsShow q parts → get_elem? parts j ≡ some v → Lawful q → 0 < n → q.taken + n ≤ length q.places → ((i : ℕ) → i < n → 2 ≤ stage_at q (q.taken + i))
    → w.takes ≡ v.takes ++ record { start = tail_of q; places = take n (drop q.taken q.places) } ∷ [] → w.runs ≡ v.runs → Grows w.queue (with_take q n) → IsEvent q (with_take q n) j v w (take_first q.room n)
unfolding listed_take
take_event q parts j n v w l at lawful some_items long up_to takes runs grown = let within = lawful.within in
    event_by q (with_take q n) parts j v w (take_first q.room n) l at lawful (listed_take q parts j n v w l at some_items long takes runs grown) (take_goes q.room n (queue_of q l.lists.runs) some_items (omega arith) (first_raised q l.lists.runs n l.lists.runs_are.flat long up_to))

pub shut_event : (q : Positions) (parts : List QueueView) (j : ℕ) (v w : QueueView) → ViewsShow q parts → get_elem? parts j ≡ some v → Lawful q → w.runs ≡ v.runs → w.takes ≡ v.takes → Grows w.queue (with_shut q) → IsEvent q (with_shut q) j v w (λ c. Ok (shut c))
unfolding listed_shut
shut_event q parts j v w l at lawful runs takes grown = event_by q (with_shut q) parts j v w (λ c. Ok (shut c)) l at lawful (listed_shut q parts j v w l at runs takes grown) refl

run_moved : (c d n : ℕ) (o : Owned Batch) (b : Bool) → run_in (if b then (c, n + o.1, o.2) else o) ≡ (let r : Run = record { call = if b then c else o.0; items = map item_of o.2.places } in r)
run_moved c d n o true = refl
run_moved c d n o false = refl

runs_moved : (c d n : ℕ) (runs : Log) → map run_in (map (moved c d n) runs) ≡ map (join_run c d) (map run_in runs)
runs_moved c d n [] = refl
runs_moved c d n (o ∷ os) = ap₂ (λ (x : Run) (xs : List Run). x ∷ xs) (run_moved c d n o (eqb o.0 d)) (runs_moved c d n os)

up_moved : (c d n : ℕ) (runs : Log) (r i : ℕ) → published_in (slice_get (map (moved c d n) runs) r) i ≡ published_in (slice_get runs r) i
up_moved c d n [] r i = refl
up_moved c d n (o ∷ os) zero i = ap (λ (z : Batch). is_published (get_or z.places i blank)) (moved_entry c d n o)
up_moved c d n (o ∷ os) (suc r) i = up_moved c d n os r i

-- if the runs of d go to c, the queue is the one after the join
pub joined_is : (q : Positions) (c d n : ℕ) (runs : Log) → queue_of q (map (moved c d n) runs) ≡ join_queue c d (queue_of q runs)
joined_is q c d n runs = ap₂ (λ (x : List Run) (y : ℕ → ℕ → Bool). let z : Queue = record { history = x; raised = y; taken = q.taken; capacity = q.room; shut = q.shut } in z) (runs_moved c d n runs)
    (same_set (queue_of q (map (moved c d n) runs)).raised (queue_of q runs).raised (up_moved c d n runs))
