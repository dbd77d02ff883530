-- What the ends of a queue hold, by counting over all runs and takings: an end holds what it took and did not put back.
-- What all ends hold and what is left in the queue add up to the first run.
use Rattle.std.proofs.Common.{◌≡◌, ℕ, ◌+◌, ◌-◌, ◌<◌, ◌≤◌, Bool, true, false, List, [], ◌∷◌, ◌∙◌, map, length, take, drop, refl, ap, arith, eq-eqb, eqb}
use Rattle.std.proofs.lemmas.Bool.{ne_eqb}
use Rattle.std.proofs.lemmas.List.{map-append}
use Rattle.std.specs.List.{concat, filter}
use mathlib.Core.Bool.{cond, not}
use mathlib.Core.Option.{some}
use lib.ListN.{get_elem?}
use Rattle.event_theory.specs.Runs.{Run, flat}
use Rattle.table_theory.specs.declared.queues.Batch.{Batch}
use Rattle.table_theory.specs.Batches.{line_of}
use Rattle.table_theory.specs.Filing.{Owned, ListedOnce}
use Rattle.table_theory.specs.Listing.{Adjacent, IsSolid, all_places}
use Rattle.table_theory.specs.Positioned.{item_of}
use Rattle.table_theory.specs.QueueOf.{run_in}
use Rattle.table_theory.specs.Sharing.{total}
use Rattle.table_theory.specs.Times.{first_items, times}
use Rattle.table_theory.proofs.Times.{times_append, times_concat, times_flat, times_split, total_less, total_map}
use Rattle.table_theory.proofs.Weighing.{filed_total}

-- how often x is in a batch, and in a batch that does not begin at the first position
abbrev pub in_batch : ℕ → Batch → ℕ
in_batch x e = times x (line_of e)

abbrev pub in_later : ℕ → ℕ → Batch → ℕ
in_later first x e = cond (not (eqb e.start first)) (in_batch x e) 0

-- LISTS

pub times_lines : (x : ℕ) (l : List Batch) → times x (concat (map line_of l)) ≡ total (in_batch x) l
times_lines x l = times_concat x (map line_of l) ∙ total_map (times x) line_of l

module _ {A : Type 0} (line : A → List ℕ) (keep : A → Bool) (x : ℕ) where
  one_kept : (a : A) (l : List A) (kept : Bool) → times x (concat (map line (cond kept (a ∷ filter keep l) (filter keep l)))) ≡ cond kept (times x (line a)) 0 + times x (concat (map line (filter keep l)))
  one_kept a l true = times_append x (line a) (concat (map line (filter keep l)))
  one_kept a l false = omega arith

  -- the lines that are kept
  pub times_kept : (l : List A) → times x (concat (map line (filter keep l))) ≡ total (λ a. cond (keep a) (times x (line a)) 0) l
  times_kept [] = refl
  times_kept (a ∷ l) = let b = one_kept a l (keep a) in let h = times_kept l in omega arith

-- the places of a log have what its entries have
times_places : (x : ℕ) (log : List (Owned Batch)) → times x (map item_of (all_places log)) ≡ total (λ o. in_batch x o.2) log
times_places x [] = refl
times_places x (o ∷ log) = let a = ap (times x) (map-append item_of o.2.places (all_places log)) in let b = times_append x (line_of o.2) (map item_of (all_places log)) in let h = times_places x log in omega arith

-- LOGS

-- of runs that begin past the first position each is a later one
all_later : (x first p : ℕ) (log : List (Owned Batch)) → first < p → Adjacent p log → total (λ o. in_later first x o.2) log ≡ total (λ o. in_batch x o.2) log
all_later x first p [] past near = refl
all_later x first p (o ∷ log) past near =
    let is : not (eqb o.2.start first) ≡ true = ap not (ne_eqb o.2.start first (λ e. let s = near.0 in omega arith)) in
    let one : in_later first x o.2 ≡ in_batch x o.2 = ap (λ (b : Bool). cond b (in_batch x o.2) 0) is in
    let h = all_later x first (p + length o.2.places) log (omega arith) near.1 in omega arith

-- what is in the later runs, and in the first one, is in all runs
pub first_apart : (x first : ℕ) (o : Owned Batch) (log : List (Owned Batch)) (lists : List (List Batch)) → ListedOnce (o ∷ log) lists → Adjacent first (o ∷ log) → 0 < length o.2.places
    → total (λ l. total (in_later first x) l) lists + in_batch x o.2 ≡ total (λ l. total (in_batch x) l) lists
first_apart x first o log lists filed near solid =
    let a = filed_total (in_later first x) (o ∷ log) lists filed in
    let b = filed_total (in_batch x) (o ∷ log) lists filed in
    let is : not (eqb o.2.start first) ≡ false = ap not (eq-eqb o.2.start first near.0) in
    let none : in_later first x o.2 ≡ 0 = ap (λ (z : Bool). cond z (in_batch x o.2) 0) is in
    let rest = all_later x first (first + length o.2.places) log (omega arith) near.1 in omega arith

first_sum : (x first : ℕ) (log : List (Owned Batch)) (lists : List (List Batch)) → ListedOnce log lists → Adjacent first log → IsSolid log
    → total (λ l. total (in_later first x) l) lists + times x (first_items (map run_in log)) ≡ total (λ l. total (in_batch x) l) lists
first_sum x first [] lists filed near solid = let a = filed_total (in_later first x) [] lists filed in let b = filed_total (in_batch x) [] lists filed in omega arith
first_sum x first (o ∷ log) lists filed near solid = first_apart x first o log lists filed near (solid 0 o refl)

-- ALL ENDS

-- The history of a queue from this position on, of which so many items are taken. Each run and each taking is in the
-- lists of one view, once
pub record Accounts {V : Type 0} (runs_of takes_of : V → List Batch) (views : List V) (first : ℕ) (history : List Run) (taken : ℕ) : Type 0 where
  pub runs : List (Owned Batch)
  pub takings : List (Owned Batch)
  pub history_is : history ≡ map run_in runs
  pub once : ListedOnce runs (map runs_of views)
  pub near : Adjacent first runs
  pub solid : IsSolid runs
  pub taken_once : ListedOnce takings (map takes_of views)
  pub taken_items : map item_of (all_places takings) ≡ take taken (flat history)

module _ {V : Type 0} (runs_of takes_of : V → List Batch) (views : List V) (first : ℕ) (history : List Run) (taken : ℕ) (accounts : Accounts runs_of takes_of views first history taken) (x : ℕ) where
  puts_sum : total (λ v. total (in_later first x) (runs_of v)) views + times x (first_items history) ≡ times x (flat history)
  puts_sum =
      let lists : List (List Batch) = map runs_of views in
      let a = first_sum x first accounts.runs lists accounts.once accounts.near accounts.solid in
      let b = total_map (λ (l : List Batch). total (in_later first x) l) runs_of views in
      let c = filed_total (in_batch x) accounts.runs lists accounts.once in
      let d = ap (λ (z : List Run). times x (first_items z)) accounts.history_is in
      let e = ap (λ (z : List Run). times x (flat z)) accounts.history_is in
      let f = times_flat (λ (r : Run). r.items) x (map run_in accounts.runs) in
      let g = total_map (λ (r : Run). times x r.items) run_in accounts.runs in omega arith

  takes_sum : total (λ v. total (in_batch x) (takes_of v)) views ≡ times x (take taken (flat history))
  takes_sum =
      let lists : List (List Batch) = map takes_of views in
      let a = filed_total (in_batch x) accounts.takings lists accounts.taken_once in
      let b = times_places x accounts.takings in
      let c = ap (times x) accounts.taken_items in
      let d = total_map (λ (l : List Batch). total (in_batch x) l) takes_of views in omega arith

  -- if no end has put back more than it took, what all ends hold and what is left in the queue are the first run
  pub held_sum : ((j : ℕ) (v : V) → get_elem? views j ≡ some v → total (in_later first x) (runs_of v) ≤ total (in_batch x) (takes_of v))
      → total (λ v. total (in_batch x) (takes_of v) - total (in_later first x) (runs_of v)) views + times x (drop taken (flat history)) ≡ times x (first_items history)
  held_sum fair = let p = puts_sum in let t = takes_sum in let w = times_split x taken (flat history) in
      let l = total_less (λ (v : V). total (in_batch x) (takes_of v)) (λ (v : V). total (in_later first x) (runs_of v)) views fair in omega arith
