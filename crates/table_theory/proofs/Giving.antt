-- How often a number is in the lines that an end put or took.
use Rattle.std.proofs.Common.{◌≡◌, ℕ, ◌+◌, ◌<◌, ◌≤◌, List, [], ◌∷◌, ◌++◌, ◌∙◌, map, refl, arith}
use mathlib.Core.Bool.{cond}
use mathlib.Core.Option.{some}
use lib.ListN.{get_elem?}
use Rattle.table_theory.specs.declared.queues.Batch.{Batch}
use Rattle.table_theory.specs.Batches.{line_of}
use Rattle.table_theory.specs.Protocols.{Placed, placed_lines}
use Rattle.table_theory.specs.Sharing.{total}
use Rattle.table_theory.specs.Times.{is_later, items_in, returned, times}
use Rattle.table_theory.proofs.Holding.{in_batch, in_later, times_kept}
use Rattle.table_theory.proofs.Times.{times_at, times_concat, total_joined, total_map}
use Rattle.table_theory.proofs.Totals.{one_of}

abbrev pub placed : Batch → Placed
placed e = (e.start, line_of e)

-- how often x is in a line, and in a line that is not the first
abbrev pub in_line : ℕ → Placed → ℕ
in_line x line = times x line.1

abbrev pub given_in : ℕ → ℕ → Placed → ℕ
given_in first x line = cond (is_later first line) (times x line.1) 0

pub times_items : (x : ℕ) (lines : List Placed) → times x (items_in lines) ≡ total (in_line x) lines
times_items x lines = times_concat x (map (λ (line : Placed). line.1) lines) ∙ total_map (times x) (λ (line : Placed). line.1) lines

pub times_given : (first x : ℕ) (lines : List Placed) → times x (returned first lines) ≡ total (given_in first x) lines
times_given first x lines = times_kept (λ (line : Placed). line.1) (is_later first) x lines

-- one line more, or other lines more
pub items_joined : (x : ℕ) (lines more : List Placed) → times x (items_in (lines ++ more)) ≡ times x (items_in lines) + times x (items_in more)
items_joined x lines more = let a = times_items x (lines ++ more) in let b = times_items x lines in let c = times_items x more in let t = total_joined (in_line x) lines more in omega arith

pub given_joined : (first x : ℕ) (lines more : List Placed) → times x (returned first (lines ++ more)) ≡ times x (returned first lines) + times x (returned first more)
given_joined first x lines more = let a = times_given first x (lines ++ more) in let b = times_given first x lines in let c = times_given first x more in let t = total_joined (given_in first x) lines more in omega arith

pub items_one : (x : ℕ) (line : Placed) → times x (items_in (line ∷ [])) ≡ times x line.1
items_one x line = let a = times_items x (line ∷ []) in let n : total (in_line x) (line ∷ []) ≡ times x line.1 + 0 = refl in omega arith

pub given_one : (first x : ℕ) (line : Placed) → times x (returned first (line ∷ [])) ≡ given_in first x line
given_one first x line = let a = times_given first x (line ∷ []) in let n : total (given_in first x) (line ∷ []) ≡ given_in first x line + 0 = refl in omega arith

-- an item of a line is among the items
pub item_counts : (x m i : ℕ) (lines : List Placed) (line : Placed) → get_elem? lines m ≡ some line → get_elem? line.1 i ≡ some x → 0 < times x (items_in lines)
item_counts x m i lines line at is = let a = times_items x lines in let b = one_of (in_line x) lines m line at in let c = times_at x line.1 i is in omega arith

-- the lines of runs, and of takings
pub batch_items : (x : ℕ) (l : List Batch) → times x (items_in (placed_lines l)) ≡ total (in_batch x) l
batch_items x l = times_items x (placed_lines l) ∙ total_map (in_line x) placed l

pub batch_given : (first x : ℕ) (l : List Batch) → times x (returned first (placed_lines l)) ≡ total (in_later first x) l
batch_given first x l = times_given first x (placed_lines l) ∙ total_map (given_in first x) placed l

-- what is in neither is in neither joined, and what was given back at most as often as it was taken is so joined
pub nothing_given : (first x : ℕ) → times x (returned first []) ≤ times x (items_in [])
nothing_given first x = omega arith

pub none_joined : (x : ℕ) (lines more : List Placed) → times x (items_in lines) ≡ 0 → times x (items_in more) ≡ 0 → times x (items_in (lines ++ more)) ≡ 0
none_joined x lines more a b = let c = items_joined x lines more in omega arith

pub fair_joined : (first x : ℕ) (puts taken more_puts more_taken : List Placed) → times x (returned first puts) ≤ times x (items_in taken) → times x (returned first more_puts) ≤ times x (items_in more_taken)
    → times x (returned first (puts ++ more_puts)) ≤ times x (items_in (taken ++ more_taken))
fair_joined first x puts taken more_puts more_taken h k = let a = given_joined first x puts more_puts in let b = items_joined x taken more_taken in omega arith

pub fair_taken : (first x : ℕ) (puts taken : List Placed) (line : Placed) → times x (returned first puts) ≤ times x (items_in taken) → times x (returned first puts) ≤ times x (items_in (taken ++ line ∷ []))
fair_taken first x puts taken line h = let b = items_joined x taken (line ∷ []) in omega arith
