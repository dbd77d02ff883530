-- The turns of blocks, block by block.
use Rattle.boot_picture.proofs.Common.{◌≡◌, ◌≤◌, ◌+◌, ◌∙◌, arith, ℕ, zero, suc, List, [], ◌∷◌, ◌++◌, Some, sym, ap, take, append-nil, take-add, flat_map-append, flat_map, slice_get, Entry, Block, AreInARow, turns_of}

-- the turns of one more block, which begins where the others end
pub more_turns : (entries : List Entry) (blocks : List Block) (block : Block) → flat_map (turns_of entries) blocks ≡ take block.first entries → flat_map (turns_of entries) (blocks ++ block ∷ []) ≡ take (block.first + block.turns) entries
more_turns entries blocks block h = flat_map-append (turns_of entries) blocks (block ∷ []) ∙ (ap (λ (x : List Entry). x ++ (turns_of entries block ++ [])) h ∙ (ap (λ (y : List Entry). take block.first entries ++ y) (append-nil (turns_of entries block)) ∙ sym (take-add block.first block.turns entries)))

-- one more block, which begins where the others end
pub row_more : (from : ℕ) (blocks : List Block) (block : Block) → AreInARow from blocks block.first → AreInARow from (blocks ++ block ∷ []) (block.first + block.turns)
row_more from [] block h = (sym h, ap (λ n. n + block.turns) h)
row_more from (first ∷ blocks) block h = (h.0, row_more (from + first.turns) blocks block h.1)

-- no block begins before the first one
starts_after : (from to : ℕ) (blocks : List Block) (m : ℕ) (next : Block) → AreInARow from blocks to → slice_get blocks m ≡ Some next → from ≤ next.first
starts_after from to [] m next row at = absurd cc
starts_after from to (block ∷ blocks) zero next row at =
    let same : block ≡ next = cc in
    let begins : block.first ≡ next.first = ap (λ (b : Block). b.first) same in
    let here : block.first ≡ from = row.0 in
    omega arith
starts_after from to (block ∷ blocks) (suc m) next row at =
    let later : from + block.turns ≤ next.first = starts_after (from + block.turns) to blocks m next row.1 at in
    omega arith

-- of two blocks, the later one doesn't begin before the earlier one
pub starts_forward : (from to : ℕ) (blocks : List Block) (n m : ℕ) (one next : Block) → AreInARow from blocks to → n ≤ m → slice_get blocks n ≡ Some one → slice_get blocks m ≡ Some next → one.first ≤ next.first
starts_forward from to [] n m one next row order p q = absurd cc
starts_forward from to (block ∷ blocks) zero m one next row order p q =
    let same : block ≡ one = cc in
    let begins : block.first ≡ one.first = ap (λ (b : Block). b.first) same in
    let here : block.first ≡ from = row.0 in
    let later : from ≤ next.first = starts_after from to (block ∷ blocks) m next row q in
    omega arith
starts_forward from to (block ∷ blocks) (suc n) zero one next row order p q = absurd (omega (arith, order))
starts_forward from to (block ∷ blocks) (suc n) (suc m) one next row order p q = starts_forward (from + block.turns) to blocks n m one next row.1 (omega (arith, order)) p q
