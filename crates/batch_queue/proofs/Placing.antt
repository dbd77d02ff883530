-- The events of a batch queue, by its positions.
use Rattle.batch_queue.proofs.Common.{BatchState, Cell, Lawful, List, Positions, [], ap, arith, blank, cell_of, cells, fresh, get_or, item_of, items_of, length, length-set, map, phase_at, positions_of, refl, replicate, set, set_range, suc, sym, with_batch, with_claim, with_freed, with_phase, with_raises, with_take, with_taken, zero, ℕ, ◌++◌, ◌+◌, ◌-◌, ◌<◌, ◌∙◌, ◌∷◌, ◌≡◌, ◌≤◌}
use Rattle.table_theory.specs.Positioned as pos
use Rattle.batch_queue.proofs.Growing.{batch_items, freed_taken, taken_claimed}

fresh_cells : (xs : List ℕ) (z : ℕ) → z ≡ 0 → cells xs (replicate (length xs) z) ≡ map fresh xs
fresh_cells [] z e = refl
fresh_cells (x ∷ xs) z e = λ i. (ap (cell_of x) e) i ∷ fresh_cells xs z e i

cells_more : (xs ys ps : List ℕ) → length ps ≡ length xs → cells (xs ++ ys) (ps ++ replicate (length ys) 0) ≡ cells xs ps ++ map fresh ys
cells_more [] ys [] e = fresh_cells ys 0 refl
cells_more [] ys (p ∷ ps) e = absurd (omega arith)
cells_more (x ∷ xs) ys [] e = absurd (omega arith)
cells_more (x ∷ xs) ys (p ∷ ps) e = ap (λ (z : List Cell). cell_of x p ∷ z) (cells_more xs ys ps (omega arith))

pub claimed : (o : BatchState) (claim : List ℕ) → Lawful o → positions_of (with_batch o claim) ≡ with_claim (positions_of o) claim
claimed o claim l = ap (λ (z : List Cell). let q : Positions = record { first = 0; room = o.room; places = z; taken = o.taken; shut = o.shut } in q)
    (ap (λ (z : List ℕ). cells z (o.phases ++ replicate (length claim) 0)) (batch_items o claim) ∙ cells_more (items_of o) claim o.phases l.long)

-- one place more is raised
cells_set : (xs ps : List ℕ) (i : ℕ) → i < length xs → length ps ≡ length xs → set (cells xs ps) i (record { item = (get_or (cells xs ps) i blank).item; stage = 2 }) ≡ cells xs (set ps i 1)
cells_set [] ps i h e = absurd (omega arith)
cells_set (x ∷ xs) [] i h e = absurd (omega arith)
cells_set (x ∷ xs) (zero ∷ ps) zero h e = refl
cells_set (x ∷ xs) (suc p ∷ ps) zero h e = refl
cells_set (x ∷ xs) (p ∷ ps) (suc i) h e = ap (λ (z : List Cell). cell_of x p ∷ z) (cells_set xs ps i (omega arith) (omega arith))

range_none : (ps : List ℕ) (a y : ℕ) → set_range ps a a y ≡ ps
range_none [] a y = refl
range_none (p ∷ ps) zero y = refl
range_none (p ∷ ps) (suc a) y = ap (λ (z : List ℕ). p ∷ z) (range_none ps a y)

range_step : (ps : List ℕ) (a b y : ℕ) → a < b → set_range ps a b y ≡ set_range (set ps a y) (suc a) b y
range_step [] a b y h = refl
range_step (p ∷ ps) a zero y h = absurd (omega arith)
range_step (p ∷ ps) zero (suc b) y h = refl
range_step (p ∷ ps) (suc a) (suc b) y h = ap (λ (z : List ℕ). p ∷ z) (range_step ps a b y (omega arith))

abbrev placed : BatchState → List ℕ → Positions
placed o ps = record { first = 0; room = o.room; places = cells (items_of o) ps; taken = o.taken; shut = o.shut }

raised : (o : BatchState) (n a : ℕ) (ps : List ℕ) → length ps ≡ length (items_of o) → a + n ≤ length (items_of o) → placed o (set_range ps a (a + n) 1) ≡ with_raises (placed o ps) a n
raised o zero a ps e h = ap (placed o) (ap (λ (z : ℕ). set_range ps a z 1) (let z : a + 0 ≡ a = omega arith in z) ∙ range_none ps a 1)
raised o (suc n) a ps e h = let long = length-set ps a 1 in
    ap (placed o) (range_step ps a (a + suc n) 1 (omega arith) ∙ ap (λ (z : ℕ). set_range (set ps a 1) (suc a) z 1) (let z : a + suc n ≡ suc a + n = omega arith in z))
    ∙ (raised o n (suc a) (set ps a 1) (omega arith) (omega arith)
    ∙ ap (λ (z : List Cell). let q : Positions = record { first = 0; room = o.room; places = z; taken = o.taken; shut = o.shut } in with_raises q (suc a) n) (sym (cells_set (items_of o) ps a (omega arith) e)))

pub published : (o : BatchState) (a n : ℕ) → Lawful o → a + n ≤ length (items_of o) → positions_of (with_phase o a (a + n) 1) ≡ with_raises (positions_of o) a n
published o a n l h = raised o n a o.phases l.long h

-- a phase of 1 or more is one place
cells_same : (xs ps : List ℕ) (a b y : ℕ) → ((i : ℕ) → a ≤ i → i < b → 1 ≤ get_or ps i 0) → cells xs (set_range ps a b (suc y)) ≡ cells xs ps
cells_same [] ps a b y h = refl
cells_same (x ∷ xs) [] a b y h = refl
cells_same (x ∷ xs) (p ∷ ps) a zero y h = refl
cells_same (x ∷ xs) (zero ∷ ps) zero (suc b) y h = absurd (let e = h 0 (omega arith) (omega arith) in omega arith)
cells_same (x ∷ xs) (suc p ∷ ps) zero (suc b) y h = ap (λ (z : List Cell). cell_of x (suc p) ∷ z) (cells_same xs ps zero b y (λ i f t. h (suc i) (omega arith) (omega arith)))
cells_same (x ∷ xs) (p ∷ ps) (suc a) (suc b) y h = ap (λ (z : List Cell). cell_of x p ∷ z) (cells_same xs ps a b y (λ i f t. h (suc i) (omega arith) (omega arith)))

pub taken : (o : BatchState) (new : ℕ) → Lawful o → o.taken ≤ new → new ≤ length (items_of o) → ((i : ℕ) → o.taken ≤ i → i < new → phase_at o i ≡ 1) → positions_of (with_taken o new) ≡ record (with_take (positions_of o) (new - o.taken)) { taken = new }
taken o new l from to was = ap (λ (z : List Cell). let q : Positions = record { first = 0; room = o.room; places = z; taken = new; shut = o.shut } in q) (cells_same (items_of o) o.phases o.taken new 1 (λ i f t. let w = was i f t in omega arith))

pub given : (o : BatchState) (a b : ℕ) → Lawful o → b ≤ length (items_of o) → ((i : ℕ) → a ≤ i → i < b → phase_at o i ≡ 2) → positions_of (with_phase o a b 3) ≡ positions_of o
given o a b l le was = ap (λ (z : List Cell). let q : Positions = record { first = 0; room = o.room; places = z; taken = o.taken; shut = o.shut } in q) (cells_same (items_of o) o.phases a b 2 (λ i f t. let w = was i f t in omega arith))

pub freed : (o : BatchState) (new : ℕ) → positions_of (with_freed o new) ≡ positions_of o
freed o new = refl

pub cells_length : (xs ps : List ℕ) → length (cells xs ps) ≡ length xs
cells_length [] ps = refl
cells_length (x ∷ xs) [] = ap suc (cells_length xs [])
cells_length (x ∷ xs) (p ∷ ps) = ap suc (cells_length xs ps)

cell_low : (x p : ℕ) → (cell_of x p).stage ≤ 2
cell_low x zero = omega arith
cell_low x (suc p) = omega arith

pub cells_low : (xs ps : List ℕ) (i : ℕ) → (get_or (cells xs ps) i blank).stage ≤ 2
cells_low [] ps i = omega arith
cells_low (x ∷ xs) [] zero = omega arith
cells_low (x ∷ xs) [] (suc i) = cells_low xs [] i
cells_low (x ∷ xs) (p ∷ ps) zero = cell_low x p
cells_low (x ∷ xs) (p ∷ ps) (suc i) = cells_low xs ps i

pub cells_up : (xs ps : List ℕ) (i : ℕ) → i < length xs → 1 ≤ get_or ps i 0 → 2 ≤ (get_or (cells xs ps) i blank).stage
cells_up [] ps i h e = absurd (omega arith)
cells_up (x ∷ xs) [] i h e = absurd (omega arith)
cells_up (x ∷ xs) (zero ∷ ps) zero h e = absurd (omega arith)
cells_up (x ∷ xs) (suc p ∷ ps) zero h e = omega arith
cells_up (x ∷ xs) (p ∷ ps) (suc i) h e = cells_up xs ps i (omega arith) e

cell_item : (x p : ℕ) → (cell_of x p).item ≡ x
cell_item x zero = refl
cell_item x (suc p) = refl

pub cells_items : (xs ps : List ℕ) → length ps ≡ length xs → map item_of (cells xs ps) ≡ xs
cells_items [] ps e = refl
cells_items (x ∷ xs) [] e = absurd (omega arith)
cells_items (x ∷ xs) (p ∷ ps) e = λ i. cell_item x p i ∷ cells_items xs ps (omega arith) i

pub cell_at : (xs ps : List ℕ) (i : ℕ) → i < length xs → length ps ≡ length xs → get_or (cells xs ps) i blank ≡ cell_of (get_or xs i 0) (get_or ps i 0)
cell_at [] ps i h e = absurd (omega arith)
cell_at (x ∷ xs) [] i h e = absurd (omega arith)
cell_at (x ∷ xs) (p ∷ ps) zero h e = refl
cell_at (x ∷ xs) (p ∷ ps) (suc i) h e = cell_at xs ps i (omega arith) (omega arith)

pub lawful_positions : (o : BatchState) → Lawful o → pos.Lawful (positions_of o)
lawful_positions o l = let n = cells_length (items_of o) o.phases in let t = taken_claimed o l in let f = freed_taken o l in let w = l.within in record {
  taken_within = omega arith;
  within = omega arith;
  ready = λ i h. let b = l.before i h in cells_up (items_of o) o.phases i (omega arith) (omega arith);
}

pub cell_none : (x p : ℕ) → p ≡ 0 → (cell_of x p).stage < 2
cell_none x zero e = omega arith
cell_none x (suc p) e = absurd (omega arith)
