-- Whatever the rule holds of is a lawful queue of the core, shown by the words, the slots and the views.
use Rattle.batch_queue.proofs.Common.{Batch, BatchState, Cell, IsBatch, IsUsed, List, ListedOnce, Owned, Positions, QueueView, Rule, Shape, View, [], ap, arith, at_map, blank, cell_of, entry_of, false, get_elem?, get_or, history_of, inl, inr, is_lawful_queue, item_of, items_of, length, line_of, map, mark, mark_word, part_of, phase_at, positions_of, refl, run, some, subst, suc, sym, take, true, zero, ℕ, ⊎_elim, ◌%◌, ◌*◌, ◌+◌, ◌<◌, ◌∙◌, ◌≡◌, ◌≤◌}
use Rattle.std.specs.Prelude.{Option}
use Rattle.std.proofs.Common.{true≢false}
use Rattle.std.proofs.lemmas.List.{take-map}
use Rattle.std.proofs.lemmas.Simd.{map-map}
use Rattle.event_theory.specs.Runs.{flat}
use Rattle.event_theory.specs.Queues.{Queue}
use Rattle.table_theory.specs.Listing.{runs_of, takes_of}
use Rattle.table_theory.specs.Positioned.{place_at}
use Rattle.table_theory.specs.QueueOf.{run_in, published_in, is_published, queue_of}
use Rattle.table_theory.proofs.Batches.{taken_items}
use Rattle.table_theory.proofs.Listing.{run_stands}
use Rattle.table_theory.proofs.Owned.{at_map_back}
use Rattle.table_theory.proofs.QueueEvents.{got}
use Rattle.table_theory.proofs.QueueOf.{long_is}
use Rattle.table_theory.specs.Unused.{AreZero}
use Rattle.batch_queue.specs.Between.{RunShows, ShowsQueue, ShowsEnds}
use Rattle.batch_queue.proofs.Growing.{freed_taken}
use Rattle.batch_queue.proofs.Grouping.{lines_are}
use Rattle.batch_queue.proofs.Placing.{cell_at, cells_items, cells_length, lawful_positions}
use Rattle.batch_queue.proofs.Stepping.{St}

up_false : (x p : ℕ) → p ≡ 0 → is_published (cell_of x p) ≡ false
up_false x zero e = refl
up_false x (suc p) e = absurd (omega arith)

up_true : (x p : ℕ) → 1 ≤ p → is_published (cell_of x p) ≡ true
up_true x zero e = absurd (omega arith)
up_true x (suc p) e = refl

up_phase : (x p : ℕ) → is_published (cell_of x p) ≡ true → 1 ≤ p
up_phase x zero e = absurd (true≢false (sym e))
up_phase x (suc p) e = omega arith

item_cell : (x p : ℕ) → (cell_of x p).item ≡ x
item_cell x zero = refl
item_cell x (suc p) = refl

-- an entry of a log of runs is in the view of its owner
entry_in : (o : BatchState) (views : List View) (log : List (Owned Batch)) (list_of : QueueView → List Batch) → ListedOnce log (map list_of (map part_of views)) → (k : ℕ) (run : Owned Batch) → get_elem? log k ≡ some run
    → (u : View) × (get_elem? views run.0 ≡ some u) × (get_elem? (list_of (part_of u)) run.1 ≡ some run.2)
entry_in o views log list_of filed k run at = let s = filed.stands k run at in let b = at_map_back list_of (map part_of views) run.0 s.0 s.1 in let d = at_map_back part_of views run.0 b.0 b.1 in
    (d.0, d.1, subst (λ (z : List Batch). get_elem? z run.1 ≡ some run.2) (sym (ap list_of d.2 ∙ b.2)) s.2)

-- a run of the log, whose view is u
module _ (key : Shape) (s : St) (k : Rule key s) (number : ℕ) (run : Owned Batch) (at : get_elem? k.listed.lists.runs number ≡ some run) where
  abbrev o : BatchState
  o = k.now.object

  abbrev e : Batch
  e = run.2

  abbrev queue : Queue
  queue = queue_of (positions_of o) k.listed.lists.runs

  owner : (u : View) × (get_elem? s.views run.0 ≡ some u) × (get_elem? u.own.runs run.1 ≡ some e)
  owner = entry_in o s.views k.listed.lists.runs runs_of k.listed.lists.runs_are.filed number run at

  batch : IsBatch o.batches e.start (e.start + length e.places)
  batch = (k.owns run.0 owner.0 owner.1).runs run.1 e owner.2

  some_item : 0 < length e.places
  some_item = k.listed.lists.runs_are.solid number run at

  cell_is : (i : ℕ) → i < length e.places → (get_or e.places i blank ≡ cell_of (get_or (items_of o) (e.start + i) 0) (phase_at o (e.start + i))) × (e.start + i < length (items_of o))
  cell_is i below = let t = run_stands (positions_of o) (map part_of s.views) run.0 run.1 (part_of owner.0) e k.listed.lists (at_map part_of s.views run.0 owner.0 owner.1) owner.2 in let start = t.start in let n = cells_length (items_of o) o.phases in let w = t.within in
      let here : t.at + i ≡ e.start + i = omega arith in (
        sym (t.same i below) ∙ (ap (place_at (positions_of o)) here ∙ cell_at (items_of o) o.phases (e.start + i) (omega arith) k.stands.lawful.long),
        omega arith,
      )

  raised_is : (i : ℕ) → i < length e.places → queue.raised number i ≡ is_published (cell_of (get_or (items_of o) (e.start + i) 0) (phase_at o (e.start + i)))
  raised_is i below = ap (λ (z : Option (Owned Batch)). published_in z i) (got k.listed.lists.runs number run at) ∙ ap is_published (cell_is i below).0

  up_is : (i : ℕ) → i < length e.places → queue.raised number i ≡ true → 1 ≤ phase_at o (e.start + i)
  up_is i below up = up_phase (get_or (items_of o) (e.start + i) 0) (phase_at o (e.start + i)) (sym (raised_is i below) ∙ up)

  room_is : (p : ℕ) → p % o.room ≡ p % key.room
  room_is p = ap (λ (z : ℕ). p % z) k.room

  pub run_shows : RunShows key s queue number e
  run_shows = record {
    whole = ⊎_elim
        (λ none_up. inr (λ i below. raised_is i below ∙ up_false _ _ (none_up (e.start + i) (omega arith) (omega arith))))
        (λ all_up. inl (λ i below. raised_is i below ∙ up_true _ _ (all_up (e.start + i) (omega arith) (omega arith))))
        (k.stands.lawful.whole e.start (e.start + length e.places) batch);
    marked = λ up from. let first = up_is 0 some_item up in let here : e.start + 0 ≡ e.start = omega arith in
        subst (λ (z : ℕ). get_or s.words (mark_word z e.start) 0 ≡ 2 * (e.start + length e.places)) k.room (k.stands.shows.batch_mark e.start (e.start + length e.places) batch (let x = some_item in omega arith) from (subst (λ (z : ℕ). 1 ≤ phase_at o z) here first));
    home = λ i below up from. let p : ℕ = e.start + i in let c = cell_is i below in let high = up_is i below up in let low = k.stands.lawful.after p from in let f = freed_taken o k.stands.lawful in let w = k.stands.lawful.within in let near = c.1 in
        let one : phase_at o p ≡ 1 = omega arith in
        subst (λ (z : ℕ). get_elem? s.homes z ≡ some (some (get_or e.places i blank).item)) (room_is p) ((k.homes p (omega arith) (omega arith)).up one ∙ ap (λ (z : ℕ). some (some z)) (sym (ap (λ (z : Cell). z.item) c.0 ∙ item_cell (get_or (items_of o) p 0) (phase_at o p))));
  }

-- the runs are the batches
pub runs_are : (key : Shape) (s : St) (k : Rule key s) → map line_of (map entry_of k.listed.lists.runs) ≡ k.now.object.batches
runs_are key s k = let o : BatchState = k.now.object in let l = k.listed.lists in lines_are o.batches l.runs [] o.batches refl l.runs_are.adjacent k.stands.lawful.solid
    (λ n run at. let u = entry_in o s.views l.runs runs_of l.runs_are.filed n run at in (l.runs_are.solid n run at, (k.owns run.0 u.0 u.1).runs run.1 run.2 u.2))
    (ap (map item_of) l.runs_are.flat ∙ cells_items (items_of o) o.phases k.stands.lawful.long)

pub takes_are : (key : Shape) (s : St) (k : Rule key s) → map line_of (map entry_of k.listed.lists.takes) ≡ k.now.object.takings
takes_are key s k = let o : BatchState = k.now.object in let l = k.listed.lists in let lawful = k.stands.lawful in lines_are o.takings l.takes [] o.takings refl l.takes_are.adjacent lawful.solid_takings
    (λ n run at. let u = entry_in o s.views l.takes takes_of l.takes_are.filed n run at in (l.takes_are.solid n run at, (k.owns run.0 u.0 u.1).takes run.1 run.2 u.2))
    (ap (map item_of) l.takes_are.flat ∙ (sym (take-map item_of o.taken (positions_of o).places) ∙ (ap (take o.taken) (cells_items (items_of o) o.phases lawful.long) ∙ sym lawful.items)))

pub shows_queue : (key : Shape) (s : St) → Rule key s → ShowsQueue key s
shows_queue key s k = let o : BatchState = k.now.object in let q : Positions = positions_of o in let l = k.listed.lists in let n = long_is q l.runs l.runs_are.flat in let c = cells_length (items_of o) o.phases in let h = k.stands.shows in let room = k.room in let lawful = k.stands.lawful in record {
  now = k.now;
  state_lawful = lawful;
  queue = queue_of q l.runs;
  same = refl;
  history = history_of q (map part_of s.views) k.listed;
  batches = runs_are key s k;
  takings = takes_are key s k;
  words = h;
  seen = k.seen;
  shut_once = k.shut_once;
  parted_once = k.parted_once;
  number = k.stands.number;
  lawful = is_lawful_queue q l.runs (lawful_positions o lawful) (history_of q (map part_of s.views) k.listed);
  shown = record {
    runs = l.runs;
    history = refl;
    once = subst (ListedOnce l.runs) (map-map runs_of part_of s.views) l.runs_are.filed;
    side_by_side = l.runs_are.adjacent;
    raised = λ run index. refl;
    each = λ number run at. run_shows key s k number run at;
    takings = l.takes;
    taken_once = subst (ListedOnce l.takes) (map-map takes_of part_of s.views) l.takes_are.filed;
    taken_in_order = l.takes_are.adjacent;
    taken_items = taken_items q _ l;
    capacity = k.room;
    long = let w = h.wide in omega arith;
    bounded = let w = h.bounded in omega arith;
    head = h.head ∙ (let z : length (items_of o) + mark o.shut ≡ length (flat (map run_in l.runs)) + mark o.shut = omega arith in z);
    tail = h.tail;
    free = let f = h.free in let t = freed_taken o lawful in omega arith;
    within = let f = h.free in let w = lawful.within in omega arith;
    unused = subst (λ (z : ℕ). AreZero (IsUsed z) s.words) k.room h.unused;
  };
}

pub shows_ends : (key : Shape) (s : St) → Rule key s → ShowsEnds key s
unfolding shows_queue
shows_ends key s k = record { shows = shows_queue key s k; true_ends = k.stands.true_ends }
