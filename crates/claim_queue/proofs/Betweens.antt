-- A state for which the rule holds is a lawful queue of the core, shown by the words and the views.
use Rattle.claim_queue.proofs.Common.{◌≡◌, ℕ, ◌+◌, ◌%◌, ◌<◌, ◌≤◌, ◌∙◌, map, length, refl, sym, ap, subst, arith, Positions, stage_at, ListedOnce, Shape, mark, data_in, flag_in, part_of, Rule, IsUsed}
use Rattle.table_theory.specs.Unused.{AreZero}
use Rattle.std.proofs.lemmas.Simd.{map-map}
use Rattle.std.proofs.lemmas.Bool.{leb-true, leb-false}
use Rattle.event_theory.specs.Runs.{flat}
use Rattle.table_theory.specs.Listing.{runs_of, takes_of, Adjacent}
use Rattle.table_theory.specs.QueueOf.{run_in, queue_of}
use Rattle.table_theory.proofs.Batches.{item_is, up_is, taken_items}
use Rattle.table_theory.proofs.QueueOf.{long_is, is_lawful_queue}
use Rattle.table_theory.proofs.QueueEvents.{history_of}
use Rattle.claim_queue.specs.Between.{PlaceIs, ShowsQueue, ShowsEnds}
use Rattle.claim_queue.proofs.Stepping.{St, seen_grows}

place_is : (key : Shape) (s : St) (k : Rule key s) (i : ℕ) → k.now.object.taken ≤ i → i < length k.now.object.places → PlaceIs (queue_of k.now.object k.listed.lists.runs) key.room s.words i (key.first + i)
place_is key s k i from below = let q : Positions = k.now.object in let l = k.listed.lists in let u = up_is q l.runs l.runs_are.flat i below in let x = item_is q l.runs l.runs_are.flat i below in
    let within = k.stands.lawful.within in let p = k.stands.shows.window.each i from (omega arith) in
    let at : (q.first + i) % q.room ≡ (key.first + i) % key.room = (λ z. (k.first z + i) % k.room z) in
    let flag : flag_in s.words ((q.first + i) % q.room) ≡ flag_in s.words ((key.first + i) % key.room) = (λ z. flag_in s.words (at z)) in
    let datum : data_in s.words ((q.first + i) % q.room) ≡ data_in s.words ((key.first + i) % key.room) = (λ z. data_in s.words (at z)) in
    let first = k.first in record {
      raised = λ h. sym flag ∙ (p.up (leb-true 2 (stage_at q i) (sym u ∙ h)) ∙ ap (λ (z : ℕ). z + i + 1) first);
      item = λ h. sym datum ∙ (p.holds (let w = leb-true 2 (stage_at q i) (sym u ∙ h) in omega arith) ∙ sym x);
      claimed = λ h. let f = p.low (leb-false 2 (stage_at q i) (sym u ∙ h)) in omega arith;
    }

pub shows_queue : (key : Shape) (s : St) → Rule key s → ShowsQueue key s
shows_queue key s k = let q : Positions = k.now.object in let l = k.listed.lists in let n = long_is q l.runs l.runs_are.flat in let h = k.stands.shows in let first = k.first in let room = k.room in record {
  now = k.now;
  queue = queue_of q l.runs;
  same = refl;
  first = k.first;
  history = history_of q (map part_of s.views) k.listed;
  seen = λ j v at. seen_grows key s k j v at;
  shut_once = k.shut_once;
  number = k.stands.number;
  rests = h.rests;
  lawful = is_lawful_queue q l.runs k.stands.lawful (history_of q (map part_of s.views) k.listed);
  shown = record {
    runs = l.runs;
    history = refl;
    once = subst (ListedOnce l.runs) (map-map runs_of part_of s.views) l.runs_are.filed;
    side_by_side = subst (λ (z : ℕ). Adjacent z l.runs) k.first l.runs_are.adjacent;
    raised = λ run index. refl;
    takings = l.takes;
    taken_once = subst (ListedOnce l.takes) (map-map takes_of part_of s.views) l.takes_are.filed;
    taken_in_order = subst (λ (z : ℕ). Adjacent z l.takes) k.first l.takes_are.adjacent;
    taken_items = taken_items q _ l;
    capacity = k.room;
    long = let w = h.wide in omega arith;
    bounded = let w = h.bounded in omega arith;
    head = h.head ∙ (let z : q.first + length q.places + mark q.shut ≡ key.first + length (flat (map run_in l.runs)) + mark q.shut = omega arith in z);
    tail = h.tail ∙ ap (λ (z : ℕ). z + q.taken) first;
    places = λ i from below. place_is key s k i from (omega arith);
    unused = subst (λ (z : ℕ). AreZero (IsUsed z) s.words) k.room h.unused;
  };
}

pub shows_ends : (key : Shape) (s : St) → Rule key s → ShowsEnds key s
unfolding shows_queue
shows_ends key s k = record { shows = shows_queue key s k; true_ends = k.stands.true_ends }
