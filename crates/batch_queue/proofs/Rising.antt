-- No number that a call has found is below one that its end had seen; and two ends have nothing in common.
use Rattle.batch_queue.proofs.Common.{Batch, BatchState, Grows, IsValidView, IsValidStep, InvHeldOf, List, Positions, QueueView, SHUT, Step, View, arith, at_map, free_word, head_word, items_of, length, map, of_batches, part_of, positions_of, tail_word, take, ◌%◌, ◌++◌, ◌∷◌, ◌≡◌, ◌≤◌}
use Rattle.table_theory.specs.Apart.{AreApart}
use Rattle.table_theory.specs.Ledgers.{ExtendsTrace}
use Rattle.table_theory.specs.Listing.{runs_of, takes_of}
use Rattle.table_theory.proofs.Apart.{lists_apart}
use Rattle.table_theory.proofs.Reaching.{passes_since}
use Rattle.table_theory.proofs.Saying.{passes_split}
use Rattle.batch_queue.proofs.Growing.{grows_trans, items_grow, passes_grow, reaches_grow, real_grows}
use Rattle.batch_queue.proofs.Reporting.{free_says, head_is, tail_says}

module _ (v w : View) (x : IsValidView of_batches v) (y : IsValidView of_batches w) where
  -- the queue grows up to an entry, and on from it
  around : (before after : List (Step BatchState)) (e : Step BatchState) → ExtendsTrace v (before ++ e ∷ after) w → Grows v.seen.object e.then.object × IsValidStep of_batches e × Grows e.then.object w.seen.object
  around before after e a = let p = passes_split of_batches v.seen w.seen before e after (passes_since of_batches v w (before ++ e ∷ after) x y a) in
      (reaches_grow v.seen e.then p.0, p.1, grows_trans e.then.object e.next.object w.seen.object (real_grows e p.1) (passes_grow e.next w.seen after p.2))

  -- and from one entry to a later one
  both_grow : (before between after : List (Step BatchState)) (e f : Step BatchState) → ExtendsTrace v (before ++ e ∷ (between ++ f ∷ after)) w → IsValidStep of_batches e × IsValidStep of_batches f × Grows e.then.object f.then.object
  both_grow before between after e f a = let p = passes_split of_batches v.seen w.seen before e (between ++ f ∷ after) (passes_since of_batches v w (before ++ e ∷ (between ++ f ∷ after)) x y a) in let q = passes_split of_batches e.next w.seen between f after p.2 in
      (p.1, q.1, grows_trans e.then.object e.next.object f.then.object (real_grows e p.1) (reaches_grow e.next f.then q.0))

  pub head_around : (before after : List (Step BatchState)) (e : Step BatchState) → ExtendsTrace v (before ++ e ∷ after) w → e.word ≡ head_word → (length (items_of v.seen.object) ≤ e.found % SHUT) × (e.found % SHUT ≤ length (items_of w.seen.object))
  head_around before after e a is = let r = around before after e a in let h = head_is e is r.1 in let g = items_grow v.seen.object e.then.object r.0 in let g' = items_grow e.then.object w.seen.object r.2 in (omega arith, omega arith)

  pub heads_in_order : (before between after : List (Step BatchState)) (e f : Step BatchState) → ExtendsTrace v (before ++ e ∷ (between ++ f ∷ after)) w → e.word ≡ head_word → f.word ≡ head_word → e.found % SHUT ≤ f.found % SHUT
  heads_in_order before between after e f a is is' = let r = both_grow before between after e f a in let h = head_is e is r.0 in let h' = head_is f is' r.1 in let g = items_grow e.then.object f.then.object r.2 in omega arith

  pub tail_around : (before after : List (Step BatchState)) (e : Step BatchState) → ExtendsTrace v (before ++ e ∷ after) w → e.word ≡ tail_word → (v.seen.object.taken ≤ e.found) × (e.found ≤ w.seen.object.taken)
  tail_around before after e a is = let r = around before after e a in let t = tail_says e is r.1 in let g = r.0.taken in let g' = r.2.taken in (omega arith, omega arith)

  pub tails_in_order : (before between after : List (Step BatchState)) (e f : Step BatchState) → ExtendsTrace v (before ++ e ∷ (between ++ f ∷ after)) w → e.word ≡ tail_word → f.word ≡ tail_word → e.found ≤ f.found
  tails_in_order before between after e f a is is' = let r = both_grow before between after e f a in let t = tail_says e is r.0 in let t' = tail_says f is' r.1 in let g = r.2.taken in omega arith

  pub free_around : (before after : List (Step BatchState)) (e : Step BatchState) → ExtendsTrace v (before ++ e ∷ after) w → e.word ≡ free_word → (v.seen.object.freed ≤ e.found) × (e.found ≤ w.seen.object.freed)
  free_around before after e a is = let r = around before after e a in let t = free_says e is r.1 in let g = r.0.freed in let g' = r.2.freed in (omega arith, omega arith)

  pub frees_in_order : (before between after : List (Step BatchState)) (e f : Step BatchState) → ExtendsTrace v (before ++ e ∷ (between ++ f ∷ after)) w → e.word ≡ free_word → f.word ≡ free_word → e.found ≤ f.found
  frees_in_order before between after e f a is is' = let r = both_grow before between after e f a in let t = free_says e is r.0 in let t' = free_says f is' r.1 in let g = r.2.freed in omega arith

-- the runs and takings of an end that took in another end
module _ (w : View) (r : InvHeldOf w) (l m : List Batch) where
  pub runs_apart : w.own.runs ≡ l ++ m → AreApart l m
  runs_apart is = let q : Positions = positions_of r.rule.now.object in let parts : List QueueView = map part_of r.state.views in let k = r.rule.listed.lists in
      lists_apart q.first q.places k.runs (map runs_of parts) r.number l m w.own.runs k.runs_are (at_map runs_of parts r.number (part_of w) (at_map part_of r.state.views r.number w r.here)) is

  pub takes_apart : w.own.takes ≡ l ++ m → AreApart l m
  takes_apart is = let q : Positions = positions_of r.rule.now.object in let parts : List QueueView = map part_of r.state.views in let k = r.rule.listed.lists in
      lists_apart q.first (take q.taken q.places) k.takes (map takes_of parts) r.number l m w.own.takes k.takes_are (at_map takes_of parts r.number (part_of w) (at_map part_of r.state.views r.number w r.here)) is
