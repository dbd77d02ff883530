-- Runs and takings as lines, and the items of a queue that a table shows, with their flags.
use Rattle.table_theory.proofs.Common.{◌≡◌, ℕ, ◌<◌, Bool, false, List, map, length, take, get_or, sym, ap, ◌∙◌, arith, take-map, Batch, Positions, QueueView, flat, pairs, is_raised, Owned, all_places, PartsShow, blank, item_of, item_at, place_at, is_published, queue_of, run_in}
use Rattle.std.proofs.lemmas.List.{get_or-map}
use Rattle.event_theory.proofs.Lists.Histories.{length-pairs_from}
use Rattle.table_theory.proofs.QueueOf.{items_are, long_is, up_of}

-- the runs have these places, in order
module _ (q : Positions) (runs : List (Owned Batch)) (same : all_places runs ≡ q.places) where
  pub item_is : (i : ℕ) → i < length q.places → get_or (flat (map run_in runs)) i 0 ≡ item_at q i
  item_is i below = ap (λ (z : List ℕ). get_or z i 0) (items_are q runs same) ∙ get_or-map item_of q.places i blank 0 below

  -- whether an item is raised
  pub up_is : (i : ℕ) → i < length q.places → is_raised (queue_of q runs) (get_or (pairs (map run_in runs)) i (0, 0)) ≡ is_published (place_at q i)
  up_is i below = let n = length-pairs_from 0 (map run_in runs) in let m = long_is q runs same in
      sym (get_or-map (is_raised (queue_of q runs)) (pairs (map run_in runs)) i (0, 0) false (omega arith))
      ∙ (ap (λ (z : List Bool). get_or z i false) (up_of q runs ∙ ap (map is_published) same) ∙ get_or-map is_published q.places i blank false below)

  pub taken_is : map item_of (take q.taken q.places) ≡ take q.taken (flat (map run_in runs))
  taken_is = sym (take-map item_of q.taken q.places) ∙ ap (take q.taken) (sym (items_are q runs same))

-- the takings that the ends list have the first items of the history
pub taken_items : (q : Positions) (views : List QueueView) (l : PartsShow q views) → map item_of (all_places l.takes) ≡ take q.taken (flat (map run_in l.runs))
taken_items q views l = ap (map item_of) l.takes_are.flat ∙ taken_is q l.runs l.runs_are.flat
