-- Takings may end at the ends of batches, and at positions at which batches were parted.
use Rattle.batch_queue.proofs.Common.{BatchState, Grows, IsBatch, IsEdge, List, [], ap, append-nil, arith, concat, concat-append, drop, get_elem?, inl, inr, length, refl, some, some-ne-none, subst, sym, take, with_batch, ℕ, ◌++◌, ◌-◌, ◌∙◌, ◌∷◌, ◌≡◌, ◌≤◌, ⊎_elim}
use Rattle.std.proofs.Math.Seq.{take-add}
use Rattle.atomic_table.proofs.Lists.{at_longer}
use Rattle.batch_queue.specs.Object.{IsParted, IsRest, IsStop, IsWithin, with_part}
use Rattle.batch_queue.proofs.Whole.{batch_on, edge_on}

-- where a batch begins
pub batch_start : (bs : List (List ℕ)) (p e : ℕ) → IsBatch bs p e → IsEdge bs p
batch_start bs p e b = record { before = b.before; rest = b.batch ∷ b.rest; all = b.all; at = b.at }

pub rest_on : (bs later more : List (List ℕ)) (p e : ℕ) → bs ++ more ≡ later → IsRest bs p e → IsRest later p e
rest_on bs later more p e is r = record { start = r.start; batch = batch_on bs later more r.start e is r.batch; from = r.from; some_item = r.some_item }

pub parted_on : (o r : BatchState) → Grows o r → (p : ℕ) → IsParted o p → IsParted r p
parted_on o r g p h = (h.0, subst (λ (z : List ℕ). get_elem? z h.0 ≡ some p) g.parted.1 (at_longer o.parted g.parted.0 h.0 p h.1))

pub stop_on : (o r : BatchState) → Grows o r → (p : ℕ) → IsStop o p → IsStop r p
stop_on o r g p h = ⊎_elim (λ e. inl (edge_on o.batches r.batches g.more.0 p g.more.1 e)) (λ t. inr (parted_on o r g p t)) h

pub within_on : (o r : BatchState) → Grows o r → (p e : ℕ) → IsWithin o p e → IsWithin r p e
unfolding rest_on
within_on o r g p e w = let q = g.phases p in let up = w.2 in (rest_on o.batches r.batches g.more.0 p e g.more.1 w.0, w.1, omega arith)

-- no batch was parted meanwhile
pub parts_on : (o r : BatchState) → Grows o r → r.parted ≡ o.parted → ((p : ℕ) → IsParted o p → (e : ℕ) × IsWithin o p e) → (p : ℕ) → IsParted r p → (e : ℕ) × IsWithin r p e
parts_on o r g same parts p h = let w = parts p (h.0, subst (λ (z : List ℕ). get_elem? z h.0 ≡ some p) same h.1) in (w.0, within_on o r g p w.0 w.1)

pub stop_claimed : (o : BatchState) (claim : List ℕ) (p : ℕ) → IsStop o p → IsStop (with_batch o claim) p
stop_claimed o claim p h = ⊎_elim (λ e. inl (edge_on o.batches (o.batches ++ claim ∷ []) (claim ∷ []) p refl e)) (λ t. inr t) h

pub stop_parted : (o : BatchState) (q end p : ℕ) → IsStop o p → IsStop (with_part o q end) p
stop_parted o q end p h = ⊎_elim (λ e. inl e) (λ t. inr (t.0, at_longer o.parted (q ∷ []) t.0 p t.1)) h

-- if no batch was parted, a taking ends where a batch ends
pub edge_if : (o : BatchState) (p : ℕ) → o.parted ≡ [] → IsStop o p → IsEdge o.batches p
edge_if o p none h = ⊎_elim (λ e. e) (λ t. absurd (some-ne-none p (sym (sym (ap (λ (z : List ℕ). get_elem? z t.0) none) ∙ t.1)))) h

-- the items of the takings after one more
pub items_taken : (ts : List (List ℕ)) (xs : List ℕ) (tail new : ℕ) → length (concat ts) ≡ tail → concat ts ≡ take tail xs → tail ≤ new → concat (ts ++ take (new - tail) (drop tail xs) ∷ []) ≡ take new xs
items_taken ts xs tail new long is less = concat-append ts (take (new - tail) (drop tail xs) ∷ []) ∙ ((λ i. is i ++ append-nil (take (new - tail) (drop tail xs)) i) ∙ (sym (take-add tail (new - tail) xs) ∙ ap (λ (z : ℕ). take z xs) (omega arith)))
