-- Batches in groups, each a taking; and batches as the ends list them.
use Rattle.batch_queue.proofs.Common.{Adjacent, AreGroups, AreSolid, Batch, IsBatch, IsEdge, List, Owned, [], all_places, ap, append-nil, append_assoc, arith, concat, concat-append, drop, entry_of, flat_map, get_elem?, item_of, length, length-append, length-map, line_of, map, map-append, refl, some, subst, suc, sym, take, ℕ, ⊎_elim, ◌++◌, ◌+◌, ◌-◌, ◌<◌, ◌∙◌, ◌∷◌, ◌≡◌}
use Rattle.std.proofs.lemmas.Grind.{flat_map-append}
use Rattle.std.proofs.Math.Seq.{drop-append_seam, take-append_seam}
use Rattle.batch_queue.proofs.Whole.{Lists, first_list, last_or, one_batch, tail_list}

-- of two fronts of one list, the shorter one goes on to the longer one
front_goes_on : (a b c d : Lists) → a ++ b ≡ c ++ d → length (concat a) < length (concat c) → (g : Lists) × (a ++ g ≡ c) × (g ++ d ≡ b)
front_goes_on [] b c d e h = (c, refl, sym e)
front_goes_on (x ∷ a) b [] d e h = absurd (omega arith)
front_goes_on (x ∷ a) b (y ∷ c) d e h = let same = first_list x y (a ++ b) (c ++ d) e in let l = ap length same in let m = length-append x (concat a) in let n = length-append y (concat c) in
    let t = front_goes_on a b c d (ap tail_list e) (omega arith) in (t.0, (λ i. same i ∷ t.1 i), t.2)

pub concat_groups : (groups : List Lists) → concat (flat_map (λ group. group) groups) ≡ concat (map concat groups)
concat_groups [] = refl
concat_groups (g ∷ gs) = concat-append g (flat_map (λ group. group) gs) ∙ ap (λ (z : List ℕ). concat g ++ z) (concat_groups gs)

-- the items of the batches are those of the takings, and those that are left
pub items_left : (bs ts : Lists) (h : AreGroups bs ts) → concat bs ≡ concat ts ++ concat h.left
items_left bs ts h = ap concat (sym h.all) ∙ (concat-append (flat_map (λ group. group) h.groups) h.left ∙ ap (λ (z : List ℕ). z ++ concat h.left) (concat_groups h.groups ∙ ap concat h.each))

pub groups_claimed : (bs ts : Lists) (claim : List ℕ) → AreGroups bs ts → AreGroups (bs ++ claim ∷ []) ts
groups_claimed bs ts claim h = record {
  groups = h.groups;
  left = h.left ++ claim ∷ [];
  all = sym (append_assoc (flat_map (λ group. group) h.groups) h.left (claim ∷ [])) ∙ ap (λ (z : Lists). z ++ claim ∷ []) h.all;
  each = h.each;
}

pub groups_taken : (bs ts : Lists) (tail new : ℕ) → AreGroups bs ts → length (concat ts) ≡ tail → tail < new → IsEdge bs new → AreGroups bs (ts ++ take (new - tail) (drop tail (concat bs)) ∷ [])
groups_taken bs ts tail new h at less e = let front : Lists = flat_map (λ group. group) h.groups in
    let same : concat front ≡ concat ts = concat_groups h.groups ∙ ap concat h.each in let long = ap length same in let e_at = e.at in
    let t = front_goes_on front h.left e.before e.rest (h.all ∙ sym e.all) (omega arith) in let g : Lists = t.0 in
    let cut : concat bs ≡ concat front ++ (concat g ++ concat e.rest) = ap concat (sym h.all) ∙ (concat-append front h.left ∙ ap (λ (z : List ℕ). concat front ++ z) (ap concat (sym t.2) ∙ concat-append g e.rest)) in
    let n = ap (λ (z : Lists). length (concat z)) t.1 in let m = ap length (concat-append front g) in let k = length-append (concat front) (concat g) in
    let many : new - tail ≡ length (concat g) = omega arith in let from : tail ≡ length (concat front) = omega arith in
    let is : take (new - tail) (drop tail (concat bs)) ≡ concat g = (λ i. take (many i) (drop (from i) (cut i))) ∙ (ap (take (length (concat g))) (drop-append_seam (concat front) (concat g ++ concat e.rest)) ∙ take-append_seam (concat g) (concat e.rest)) in record {
      groups = h.groups ++ g ∷ [];
      left = e.rest;
      all = ap (λ (z : Lists). z ++ e.rest) (flat_map-append (λ group. group) h.groups (g ∷ []) ∙ ap (λ (z : Lists). front ++ z) (append-nil g)) ∙ (append_assoc front g e.rest ∙ (ap (λ (z : Lists). front ++ z) t.2 ∙ h.all));
      each = map-append concat h.groups (g ∷ []) ∙ (λ i. h.each i ++ sym is i ∷ []);
    }

-- what is left in the items
pub left_items : (bs ts : Lists) (tail : ℕ) (h : AreGroups bs ts) → length (concat ts) ≡ tail → concat h.left ≡ drop tail (concat bs)
left_items bs ts tail h at = sym ((λ i. drop (sym at i) (items_left bs ts h i)) ∙ drop-append_seam (concat ts) (concat h.left))

pub taken_items : (bs ts : Lists) (tail : ℕ) → AreGroups bs ts → length (concat ts) ≡ tail → take tail (concat bs) ≡ concat ts
taken_items bs ts tail h at = (λ i. take (sym at i) (items_left bs ts h i)) ∙ take-append_seam (concat ts) (concat h.left)

pub solid_more : (bs : Lists) (b : List ℕ) → 0 < length b → AreSolid bs → AreSolid (bs ++ b ∷ [])
solid_more bs b some_item solid p e h = ⊎_elim
    (λ t. solid p e (record { before = h.before; batch = h.batch; rest = t.0; all = t.1; at = h.at; end = h.end }))
    (λ t. let l = ap length t.1 in let x = h.end in omega arith)
    (last_or bs b h.before h.batch h.rest h.all)

line_long : (e : Batch) → length (line_of e) ≡ length e.places
line_long e = length-map e.places item_of

-- runs side by side, each of which is a batch, are the batches, if they have the same items
pub lines_are : (bs : Lists) (log : List (Owned Batch)) (before rest : Lists) → before ++ rest ≡ bs → Adjacent (length (concat before)) log → AreSolid bs
    → ((k : ℕ) (o : Owned Batch) → get_elem? log k ≡ some o → (0 < length o.2.places) × IsBatch bs o.2.start (o.2.start + length o.2.places)) → map item_of (all_places log) ≡ concat rest → map line_of (map entry_of log) ≡ rest
lines_are bs [] before [] all adjacent solid each is = refl
lines_are bs [] before (b ∷ rest) all adjacent solid each is = absurd (let l = ap length is in let n = length-append b (concat rest) in let s = solid (length (concat before)) (length (concat before) + length b) (record { before = before; batch = b; rest = rest; all = all; at = refl; end = refl }) in omega arith)
lines_are bs (o ∷ os) before [] all adjacent solid each is = absurd (let l = ap length is in let m = length-map (o.2.places ++ all_places os) item_of in let n = length-append o.2.places (all_places os) in let first = (each 0 o refl).0 in omega arith)
lines_are bs (o ∷ os) before (b ∷ rest) all adjacent solid each is =
    let p : ℕ = length (concat before) in let s = adjacent.0 in let mine = each 0 o refl in let some_item = mine.0 in
    let batch : IsBatch bs p (p + length b) = record { before = before; batch = b; rest = rest; all = all; at = refl; end = refl } in
    let some_batch = solid p (p + length b) batch in
    let same = one_batch bs p (p + length b) o.2.start (o.2.start + length o.2.places) batch mine.1 some_batch (omega arith) (omega arith) in let e = same.1 in
    let long : length (line_of o.2) ≡ length b = line_long o.2 ∙ (omega arith) in
    let both : line_of o.2 ++ map item_of (all_places os) ≡ b ++ concat rest = sym (map-append item_of o.2.places (all_places os)) ∙ is in
    let first : line_of o.2 ≡ b = sym (take-append_seam (line_of o.2) (map item_of (all_places os))) ∙ ((λ i. take (long i) (both i)) ∙ take-append_seam b (concat rest)) in
    let others : map item_of (all_places os) ≡ concat rest = sym (drop-append_seam (line_of o.2) (map item_of (all_places os))) ∙ ((λ i. drop (long i) (both i)) ∙ drop-append_seam b (concat rest)) in
    let so_far : p + length o.2.places ≡ length (concat (before ++ b ∷ [])) = sym (ap length (concat-append before (b ∷ [])) ∙ (length-append (concat before) (b ++ []) ∙ (let n = length-append b [] in omega arith))) in
    (λ i. first i ∷ lines_are bs os (before ++ b ∷ []) rest (append_assoc before (b ∷ []) rest ∙ all) (subst (λ (z : ℕ). Adjacent z os) so_far adjacent.1) solid (λ k x at. each (suc k) x at) others i)
