-- No number that a call has found is below one that its end had seen; and two ends have nothing in common.
use Rattle.claim_queue.proofs.Common.{◌≡◌, ◌%◌, ◌≤◌, List, ◌∷◌, ◌++◌, map, arith, at_map, Batch, QueueView, Positions, Step, ExtendsTrace, IsValidStep, IsValidView, Grows, head_of, tail_of, take, passes_since, passes_split, head_word, tail_word, View, of_queues, part_of, InvHeldOf}
use Rattle.table_theory.specs.Apart.{AreApart}
use Rattle.table_theory.specs.Listing.{runs_of, takes_of}
use Rattle.table_theory.proofs.Apart.{lists_apart}
use Rattle.table_theory.proofs.Positioned.{grows_trans}
use Rattle.claim_queue.proofs.Growing.{real_grows, reaches_grow, passes_grow}
use Rattle.claim_queue.proofs.Lawful.{head_says, tail_says}
use Rattle.claim_queue.proofs.Settling.{low_of}

-- the head in a head word that was found
head_is : (e : Step Positions) → e.word ≡ head_word → IsValidStep of_queues e → e.found % 4294967296 ≡ head_of e.then.object
head_is e is r = let h = head_says e is r in low_of (head_of e.then.object) e.found e.then.object.shut h.1 h.0

module _ (v w : View) (x : IsValidView of_queues v) (y : IsValidView of_queues w) where
  -- the queue grows up to an entry, and on from it
  pub around : (before after : List (Step Positions)) (e : Step Positions) → ExtendsTrace v (before ++ e ∷ after) w → Grows v.seen.object e.then.object × IsValidStep of_queues e × Grows e.then.object w.seen.object
  around before after e a = let p = passes_split of_queues v.seen w.seen before e after (passes_since of_queues v w (before ++ e ∷ after) x y a) in
      (reaches_grow v.seen e.then p.0, p.1, grows_trans e.then.object e.next.object w.seen.object (real_grows e p.1) (passes_grow e.next w.seen after p.2))

  -- and from one entry to a later one
  pub both : (before between after : List (Step Positions)) (e f : Step Positions) → ExtendsTrace v (before ++ e ∷ (between ++ f ∷ after)) w → IsValidStep of_queues e × IsValidStep of_queues f × Grows e.then.object f.then.object
  both before between after e f a = let p = passes_split of_queues v.seen w.seen before e (between ++ f ∷ after) (passes_since of_queues v w (before ++ e ∷ (between ++ f ∷ after)) x y a) in let q = passes_split of_queues e.next w.seen between f after p.2 in
      (p.1, q.1, grows_trans e.then.object e.next.object f.then.object (real_grows e p.1) (reaches_grow e.next f.then q.0))

  pub head_around : (before after : List (Step Positions)) (e : Step Positions) → ExtendsTrace v (before ++ e ∷ after) w → e.word ≡ head_word → (head_of v.seen.object ≤ e.found % 4294967296) × (e.found % 4294967296 ≤ head_of w.seen.object)
  head_around before after e a is = let r = around before after e a in let h = head_is e is r.1 in let g = r.0 in let f = g.first in let m = g.longer in let g' = r.2 in let f' = g'.first in let m' = g'.longer in (omega arith, omega arith)

  pub heads_in_order : (before between after : List (Step Positions)) (e f : Step Positions) → ExtendsTrace v (before ++ e ∷ (between ++ f ∷ after)) w → e.word ≡ head_word → f.word ≡ head_word → e.found % 4294967296 ≤ f.found % 4294967296
  heads_in_order before between after e f a is is' = let r = both before between after e f a in let h = head_is e is r.0 in let h' = head_is f is' r.1 in let g = r.2 in let s = g.first in let m = g.longer in omega arith

  pub tail_around : (before after : List (Step Positions)) (e : Step Positions) → ExtendsTrace v (before ++ e ∷ after) w → e.word ≡ tail_word → (tail_of v.seen.object ≤ e.found) × (e.found ≤ tail_of w.seen.object)
  tail_around before after e a is = let r = around before after e a in let t = tail_says e is r.1 in let g = r.0 in let f = g.first in let m = g.further in let g' = r.2 in let f' = g'.first in let m' = g'.further in (omega arith, omega arith)

  pub tails_in_order : (before between after : List (Step Positions)) (e f : Step Positions) → ExtendsTrace v (before ++ e ∷ (between ++ f ∷ after)) w → e.word ≡ tail_word → f.word ≡ tail_word → e.found ≤ f.found
  tails_in_order before between after e f a is is' = let r = both before between after e f a in let t = tail_says e is r.0 in let t' = tail_says f is' r.1 in let g = r.2 in let s = g.first in let m = g.further in omega arith

-- the runs and takings of an end that took in another end
module _ (w : View) (r : InvHeldOf w) (l m : List Batch) where
  pub runs_apart : w.own.runs ≡ l ++ m → AreApart l m
  runs_apart is = let q : Positions = r.rule.now.object in let parts : List QueueView = map part_of r.state.views in let k = r.rule.listed.lists in
      lists_apart q.first q.places k.runs (map runs_of parts) r.number l m w.own.runs k.runs_are (at_map runs_of parts r.number (part_of w) (at_map part_of r.state.views r.number w r.here)) is

  pub takes_apart : w.own.takes ≡ l ++ m → AreApart l m
  takes_apart is = let q : Positions = r.rule.now.object in let parts : List QueueView = map part_of r.state.views in let k = r.rule.listed.lists in
      lists_apart q.first (take q.taken q.places) k.takes (map takes_of parts) r.number l m w.own.takes k.takes_are (at_map takes_of parts r.number (part_of w) (at_map part_of r.state.views r.number w r.here)) is
