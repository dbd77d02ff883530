-- What the join of two calls keeps of a queue.
use Rattle.std.proofs.Common.{◌≡◌, ℕ, ◌+◌, List, [], ◌∷◌, ◌++◌, ◌∙◌, length, map, drop, refl, ap, arith, Option, Some, None, slice_get, option_map}
use Rattle.std.proofs.lemmas.List.{length-map}
use Rattle.std.proofs.lemmas.List.Folds.{flat_map-map}
use Rattle.std.proofs.lemmas.Option.{slice_get-map}
use Rattle.event_theory.specs.Runs.{Run, flat, pairs_of, pairs_from, length_of, run_length}
use Rattle.event_theory.specs.Queues.{Queue, left, left_pairs, join_run, join_queue}
use Rattle.event_theory.specs.Lawful.{IsLawfulQueue}

pub flat_joined : (call other : ℕ) (h : List Run) → flat (map (join_run call other) h) ≡ flat h
flat_joined call other h = flat_map-map (λ run. run.items) (join_run call other) h

pub pairs_from_joined : (call other number : ℕ) (h : List Run) → pairs_from number (map (join_run call other) h) ≡ pairs_from number h
pairs_from_joined call other number [] = refl
pairs_from_joined call other number (run ∷ runs) =
    ap (λ xs. pairs_of number 0 run.items ++ xs) (pairs_from_joined call other (number + 1) runs)

-- the run that is found is the one that was, with its call renamed
pub slice_get_joined : (call other : ℕ) (h : List Run) (run : ℕ)
    → slice_get (map (join_run call other) h) run ≡ option_map (join_run call other) (slice_get h run)
slice_get_joined call other h run = slice_get-map (join_run call other) h run

length_of_joined : (call other : ℕ) (found : Option Run) → length_of (option_map (join_run call other) found) ≡ length_of found
length_of_joined call other None = refl
length_of_joined call other (Some run) = refl

pub run_length_joined : (call other : ℕ) (h : List Run) (run : ℕ)
    → run_length (map (join_run call other) h) run ≡ run_length h run
run_length_joined call other h run =
    ap length_of (slice_get_joined call other h run) ∙ length_of_joined call other (slice_get h run)

pub left_joined : (call other : ℕ) (q : Queue) → left (join_queue call other q) ≡ left q
left_joined call other q = ap (drop q.taken) (flat_joined call other q.history)

pub left_pairs_joined : (call other : ℕ) (q : Queue) → left_pairs (join_queue call other q) ≡ left_pairs q
left_pairs_joined call other q = ap (drop q.taken) (pairs_from_joined call other 0 q.history)

pub join_queue_law : (call other : ℕ) (q : Queue) → IsLawfulQueue q → IsLawfulQueue (join_queue call other q)
join_queue_law call other q lawful =
    let runs : length (map (join_run call other) q.history) ≡ length q.history = length-map q.history (join_run call other) in
    record {
      solid = λ run below. rw (run_length_joined call other q.history run) (lawful.solid run (omega arith));
      within = λ run index h. rw (run_length_joined call other q.history run) (lawful.within run index h);
      taken_within = rw (flat_joined call other q.history) lawful.taken_within;
      ready = rw (pairs_from_joined call other 0 q.history) lawful.ready;
      fits = rw (flat_joined call other q.history) lawful.fits;
    }
