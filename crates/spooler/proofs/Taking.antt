-- What a taker took and kept.
use Rattle.spooler.proofs.Common.{◌≡◌, ◌≤◌, true, take, drop, arith, List, [], ◌∷◌, ◌++◌, ◌∙◌, ℕ, ◌<◌, length, ap, sym, subst, append_assoc, length-map, length-take, length-drop, ∥∥₁_elim, ℕ_set, item_of, with_take, QueueEnd, view_of, View, of_queues, lines_put, lines_taken, SameLines, TookLine, TakesInOrder, IsBegun, IsLine, TookItems, RefusedTake, scanned, refused_order, took_order, order_of, by_both, seen_room, HasTaken, KeepsPuts}
use Rattle.std.proofs.Math.Bool.{Bool-set}
use Rattle.std.proofs.Math.Bridge.{le_prop}
use Rattle.table_theory.specs.Ledgers.{load, change, IsValidView}
use Rattle.table_theory.proofs.Reaching.{passes_since}
use Rattle.claim_queue.specs.Layout.{tail_word}
use Rattle.claim_queue.specs.declared.take.TakeRefusal.{TakeRefusal}
use Rattle.claim_queue.specs.declared.take.TakeRefusal.TheVariants.{Closed}
use Rattle.claim_queue.proofs.Saying.{done_says}
use Rattle.table_theory.proofs.Saying.{passes_split}

-- one line more was taken, and kept
pub more_taken : (u v w : View) (items : List ℕ) (kept kept' : List (List ℕ)) → TookLine items v w → lines_taken v ≡ lines_taken u ++ kept → kept' ≡ kept ++ items ∷ [] → lines_taken w ≡ lines_taken u ++ kept'
more_taken u v w items kept kept' t h k = t.takes ∙ (ap (λ (z : List (List ℕ)). z ++ items ∷ []) h ∙ (append_assoc (lines_taken u) kept (items ∷ []) ∙ ap (λ (z : List (List ℕ)). lines_taken u ++ z) (sym k)))

pub puts_through : (u v w : View) → KeepsPuts u v → lines_put w ≡ lines_put v → w.member.share ≡ v.member.share → KeepsPuts u w
puts_through u v w k puts share = record { puts = puts ∙ k.puts; share = share ∙ k.share }

-- an end whose try returned Closed has seen the queue shut, and all taken
closed_seen : (v w : View) → ∥ IsValidView of_queues v ∥₁ → ∥ IsValidView of_queues w ∥₁ → RefusedTake (IsBegun 64) (IsLine 64) 64 v Closed w → (w.seen.object.shut ≡ true) × (w.seen.object.taken ≡ length w.seen.object.places)
closed_seen v w x y h = let d = λ (a : IsValidView of_queues v) (b : IsValidView of_queues w). done_says v w a b (IsBegun 64) (IsLine 64) 64 h in (
  ∥∥₁_elim x (Bool-set _ _) (λ (a : IsValidView of_queues v). ∥∥₁_elim y (Bool-set _ _) (λ (b : IsValidView of_queues w). (d a b).0)),
  ∥∥₁_elim x (ℕ_set _ _) (λ (a : IsValidView of_queues v). ∥∥₁_elim y (ℕ_set _ _) (λ (b : IsValidView of_queues w). (d a b).1)),
)

pub refused_ordered : (v w : View) (r : TakeRefusal) → ∥ IsValidView of_queues v ∥₁ → ∥ IsValidView of_queues w ∥₁ → RefusedTake (IsBegun 64) (IsLine 64) 64 v r w → TakesInOrder v → TakesInOrder w
refused_ordered v w r x y h up = order_of v w x y (λ a b. refused_order v w a b (IsBegun 64) (IsLine 64) 64 r h up)

pub took_ordered : (v w : View) (items : List ℕ) → ∥ IsValidView of_queues v ∥₁ → ∥ IsValidView of_queues w ∥₁ → 0 < length items → TookItems 64 v items w → TakesInOrder v → TakesInOrder w
took_ordered v w items x y some_item t up = order_of v w x y (λ a b. took_order v w a b 64 items some_item t up)

-- the queue was found shut and all taken
pub all_taken : (u v w : View) (kept : List (List ℕ)) (r : TakeRefusal) → r ≡ Closed → ∥ IsValidView of_queues v ∥₁ → ∥ IsValidView of_queues w ∥₁ → RefusedTake (IsBegun 64) (IsLine 64) 64 v r w → SameLines v w
    → (TakesInOrder u → TakesInOrder v) → lines_taken v ≡ lines_taken u ++ kept → HasTaken kept u w
all_taken u v w kept r is x y h s up taken = let d = closed_seen v w x y (subst (λ (z : TakeRefusal). RefusedTake (IsBegun 64) (IsLine 64) 64 v z w) is h) in record {
  takes = s.takes ∙ taken;
  order = λ o. refused_ordered v w r x y h (up o);
  shut = d.0;
  all = d.1;
}

-- what was taken is no more than the queue has places
pub took_few : (old new : QueueEnd 64) (items : List ℕ) → TookItems 64 (view_of old) items (view_of new) → length items ≤ 64
took_few old new items (tail, m, o, scan, are, first, made) = by_both old new le_prop (λ x y. (
    let v : View = view_of old in let w : View = view_of new in
    let (reached, real, leaves) = passes_split of_queues v.seen w.seen (load tail_word tail m ∷ scanned 64 tail scan) (change tail_word tail o (with_take o.object (length items))) [] (passes_since of_queues v w _ x y made.adds) in
    let within = real.lawful.within in
    let room : o.object.room ≡ 64 = (λ i. (leaves i).object.room) ∙ seen_room new in
    let rest = drop o.object.taken o.object.places in
    let long : length (take (length items) rest) ≡ length items = sym (length-map (take (length items) rest) item_of) ∙ ap length first in
    let few = length-take (length items) rest in let left = length-drop o.object.taken o.object.places in omega arith))
