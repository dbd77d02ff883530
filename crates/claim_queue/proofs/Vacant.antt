-- The items left before a place that was found not raised.
use Rattle.claim_queue.proofs.Common.{◌≡◌, ℕ, zero, suc, ◌+◌, ◌-◌, ◌<◌, ◌≤◌, List, [], ◌∷◌, ◌++◌, length, drop, take, get_or, get_or-drop, get_or-map, sym, refl, ap, ◌∙◌, subst, arith, append_assoc, Positions, AbsState, Step, load, IsValidView, passes_since, passes_split, blank, item_at, item_of, stage_at, tail_of, raised_below, head_word, tail_word, data_word, flag_word, View, of_queues, Scan, scanned, stopping, stop_position, RefusedTake, Empty}
use Rattle.std.proofs.lemmas.List.{get_or-take, length-drop}
use Rattle.table_theory.specs.Ledgers.{Passes}
use Rattle.table_theory.specs.Positioned.{left_of}
use Rattle.claim_queue.specs.Takings.{items_of}
use Rattle.claim_queue.proofs.Growing.{reaches_grow, real_grows, passes_grow}
use Rattle.claim_queue.proofs.Lawful.{tail_says, raised_says, item_says}

-- the place at a position is raised, and has this item
abbrev pub Has : Positions → ℕ → ℕ → Type 0
Has q position item = (2 ≤ stage_at q (position - q.first)) × (item_at q (position - q.first) ≡ item)

-- The tail stayed unchanged from one moment to the other. Between them each of these items was found, and then a flag.
-- At the load of the flag the places have these items
module _ (room tail : ℕ) (flag : Step Positions) (rest : List (Step Positions)) (n : AbsState Positions) (to : tail_of n.object ≡ tail) where
  first_has : (m : AbsState Positions) (p : ℕ) (f : ℕ × AbsState Positions × AbsState Positions) (more : Scan) → Passes of_queues m (scanned room p (f ∷ more) ++ flag ∷ rest) n → tail_of m.object ≡ tail → m.object.room ≡ room → tail ≤ p → p < tail + room
      → Has flag.then.object p f.0 × (tail_of f.2.object ≡ tail) × (f.2.object.room ≡ room)
  first_has m p f more h from rooms past near =
      let lf : Step Positions = load (flag_word room p) (p + 1) f.1 in let ld : Step Positions = load (data_word room p) f.0 f.2 in let s = passes_split of_queues f.2 n (scanned room (p + 1) more) flag rest h.2.2 in
      let g0 = reaches_grow m f.1 h.0 in let g1 = reaches_grow f.1 f.2 h.2.0 in let g2 = reaches_grow f.2 flag.then s.0 in let g3 = real_grows flag s.1 in let g4 = passes_grow flag.next n rest s.2 in
      let a0 = g0.first in let a1 = g1.first in let a2 = g2.first in let a3 = g3.first in let a4 = g4.first in let k0 = g0.further in let k1 = g1.further in let k2 = g2.further in let k3 = g3.further in let k4 = g4.further in let r0 = g0.room in let r1 = g1.room in
      let rooms1 : room ≡ f.1.object.room = omega arith in let rooms2 : room ≡ f.2.object.room = omega arith in
      let up = raised_says lf p (ap (λ (z : ℕ). flag_word z p) rooms1) h.1 (omega arith) (omega arith) refl in let more1 = g1.more (p - f.1.object.first) in
      let same : p - f.1.object.first ≡ p - f.2.object.first = omega arith in let up2 : 2 ≤ stage_at f.2.object (p - f.2.object.first) = subst (λ (z : ℕ). 2 ≤ stage_at f.2.object z) same (omega arith) in
      let is = item_says ld p (ap (λ (z : ℕ). data_word z p) rooms2) h.2.1 (omega arith) (omega arith) (omega arith) in let more2 = g2.more (p - f.2.object.first) in
      let same2 : p - f.2.object.first ≡ p - flag.then.object.first = omega arith in let kept = g2.items (p - f.2.object.first) (raised_below f.2.object (p - f.2.object.first) (omega arith)) in (
        subst (λ (z : ℕ). (2 ≤ stage_at flag.then.object z) × (item_at flag.then.object z ≡ f.0)) same2 ((omega arith), kept ∙ sym is),
        omega arith,
        sym rooms2,
      )

  scan_has : (m : AbsState Positions) (p : ℕ) (scan : Scan) → Passes of_queues m (scanned room p scan ++ flag ∷ rest) n → tail_of m.object ≡ tail → m.object.room ≡ room → tail ≤ p → p + length scan ≤ tail + room
      → (i : ℕ) → i < length scan → Has flag.then.object (p + i) (get_or (items_of scan) i 0)
  scan_has m p [] h from rooms past near i below = absurd (omega arith)
  scan_has m p (f ∷ more) h from rooms past near zero below = let e : p ≡ p + 0 = omega arith in subst (λ (z : ℕ). Has flag.then.object z f.0) e (first_has m p f more h from rooms past (omega arith)).0
  scan_has m p (f ∷ more) h from rooms past near (suc i) below = let a = first_has m p f more h from rooms past (omega arith) in let e : p + 1 + i ≡ p + suc i = omega arith in
      subst (λ (z : ℕ). Has flag.then.object z (get_or (items_of more) i 0)) e (scan_has f.2 (p + 1) more h.2.2 a.1 a.2 (omega arith) (omega arith) i (omega arith))

module _ (v w : View) (x : IsValidView of_queues v) (y : IsValidView of_queues w) (Few Enough : List ℕ → Type 0) (room at : ℕ) where
  -- each item that was found was still in its place when the flag was found
  pub found_there : (r : RefusedTake Few Enough room v (Empty at) w) → v.seen.object.room ≡ room → length r.0.scan < room → (i : ℕ) → i < length r.0.scan → Has r.0.at_flag.object (r.0.tail + i) (get_or (items_of r.0.scan) i 0)
  found_there (s, head, m, n, stop, is, going, mine, made) rooms short i below =
      let flag : Step Positions = load (flag_word room (stop_position s)) s.flag s.at_flag in let scan : List (Step Positions) = scanned room s.tail s.scan in let last : List (Step Positions) = load head_word head m ∷ load tail_word s.tail n ∷ [] in
      let p = passes_since of_queues v w (stopping room s ++ last) x y made.adds in let t = tail_says (load tail_word s.tail s.at_tail) refl p.1 in
      let whole : Passes of_queues s.at_tail (scan ++ flag ∷ last) w.seen = subst (λ (z : List (Step Positions)). Passes of_queues s.at_tail z w.seen) (append_assoc scan (flag ∷ []) last) p.2 in
      let c = (passes_split of_queues s.at_tail w.seen scan flag last whole).2.2 in let t' = tail_says (load tail_word s.tail n) refl c.1 in let last_is : tail_of w.seen.object ≡ s.tail = ap (λ (z : AbsState Positions). tail_of z.object) (sym c.2) ∙ sym t' in
      let r0 = (reaches_grow v.seen s.at_tail p.0).room in scan_has room s.tail flag last w.seen last_is s.at_tail s.tail s.scan whole (sym t) (omega arith) (omega arith) (omega arith) i below

-- the items that are left, from the first on, if their places have them
pub left_items : (q : Positions) (tail : ℕ) (xs : List ℕ) (i : ℕ) → tail_of q ≡ tail → i < length xs → Has q (tail + i) (get_or xs i 0) → get_or (take (length xs) (left_of q)) i 0 ≡ get_or xs i 0
left_items q tail xs i is below h = let e : tail + i - q.first ≡ q.taken + i = omega arith in let there = raised_below q (tail + i - q.first) (let up = h.0 in omega arith) in let long = length-drop q.taken q.places in
    get_or-take (length xs) (left_of q) i 0 below ∙ (get_or-map item_of (drop q.taken q.places) i blank 0 (omega arith) ∙ (ap item_of (get_or-drop q.taken q.places i blank) ∙ (ap (item_at q) (sym e) ∙ h.1)))
