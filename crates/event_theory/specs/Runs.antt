-- A run is one claim. A history is a list of runs in the order of their claims.
use Rattle.std.specs.Prelude.{ℕ, ◌+◌, List, [], ◌∷◌, ◌++◌, length, Option, Some, None}
use Rattle.std.specs.List.{flat_map, slice_get}

-- the call that claimed, and the items that it gave
pub record Run : Type 0 where
  pub call : ℕ
  pub items : List ℕ

-- all items of a history, joined
abbrev pub flat : List Run → List ℕ
flat history = flat_map (λ run. run.items) history

-- the pair (run, index) of each item of the run with this number; the first item has this index
abbrev pub pairs_of : ℕ → ℕ → List ℕ → List (ℕ × ℕ)
pairs_of run index [] = []
pairs_of run index (item ∷ items) = (run, index) ∷ pairs_of run (index + 1) items

-- the pair (run, index) of each item of `flat`; the first run has this number
abbrev pub pairs_from : ℕ → List Run → List (ℕ × ℕ)
pairs_from number [] = []
pairs_from number (run ∷ runs) = pairs_of number 0 run.items ++ pairs_from (number + 1) runs

-- the pair (run, index) of each item of a history; runs are numbered from 0
abbrev pub pairs : List Run → List (ℕ × ℕ)
pairs history = pairs_from 0 history

abbrev pub length_of : Option Run → ℕ
length_of None = 0
length_of (Some run) = length run.items

-- how many items the run with this number has; 0 if there is no such run
abbrev pub run_length : List Run → ℕ → ℕ
run_length history run = length_of (slice_get history run)
