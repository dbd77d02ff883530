-- Where an element is, and the numbers of the elements so far.
use Rattle.quaject_core.proofs.Common.{◌≡◌, ℕ, ◌+◌, Bool, not, cond, List, [], ◌∷◌, map, refl, ap, Option, position, length-map, position_or_len, Elements, queue, thread, Hold, StoredQueue, StoredThread}

position_or_len-map : {X Y : Type 0} (p : X → Bool) (f : Y → X) (ys : List Y) → position_or_len p (map f ys) ≡ position_or_len (λ y. p (f y)) ys
position_or_len-map p f [] = refl
position_or_len-map p f (y ∷ ys) = ap (λ n. cond (not (p (f y))) (1 + n) 0) (position_or_len-map p f ys)

-- the first place that passes is the same after a map
pub position_map : {X Y : Type 0} (p : X → Bool) (f : Y → X) (ys : List Y) → position p (map f ys) ≡ position (λ y. p (f y)) ys
position_map p f ys = rw (position_or_len-map p f ys, length-map ys f) refl

-- the elements with these parts
abbrev pub parts : List StoredThread → List ℕ → List StoredQueue → List (Option Hold) → List Hold → Elements
parts threads notified rings processors held = record {
  threads = map thread threads;
  rings = map queue rings;
  notified = notified;
  processors = processors;
  held = held;
}
