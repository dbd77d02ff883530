-- Each buffer has one owner, by counting over all runs and takings of the queue.
use Rattle.pool.proofs.Common.{◌≡◌, ℕ, suc, ◌+◌, ◌-◌, ◌<◌, ◌≤◌, Bool, true, false, List, [], ◌∷◌, ◌++◌, ◌∙◌, map, length, refl, sym, ap, subst, arith, ∥∥₁_elim, ℕ_set, length-range_with_len, concat, filter, if◌then◌else◌, dite, some, ℕ_discrete, get_elem?, Batch, line_of, Owned, ListedOnce, entry_of, Adjacent, total, batch_given, batch_items, placed, Accounts, held_sum, in_batch, times_kept, times_lines, at_map_back, all_once, all_other, one_alone, total_alike, total_none, one_of, Shape, View, KeepsTo, shuts_of, EachOnce, HasOneOwner, NoneHolds, NoneShut, the_queue, the_end, count_in, waiting, all_buffers, times, held, is_later, IsStocked, Lends}
use Rattle.atomic_table.proofs.Lists.{at_map}
use Rattle.atomic_table.specs.Table.{State}
use Rattle.event_theory.specs.Queues.{Queue}
use Rattle.table_theory.specs.QueueOf.{run_in}
use Rattle.table_theory.specs.Times.{first_items}
use Rattle.table_theory.proofs.Holding as theory
use Rattle.batch_queue.specs.Between.{ShowsQueue}

-- ONE END

-- how often x is in a batch that is not the first
abbrev pub in_later : ℕ → Batch → ℕ
in_later x e = theory.in_later 0 x e

-- what an end with these runs released
abbrev pub released_of : List Batch → List ℕ
released_of l = concat (map line_of (filter is_later l))

pub times_released : (x : ℕ) (l : List Batch) → times x (released_of l) ≡ total (in_later x) l
times_released x l = times_kept line_of is_later x l

-- an end that keeps to the protocol released nothing more often than it acquired it
fair_runs : (v : View) (x : ℕ) → KeepsTo Lends v → total (in_later x) v.own.runs ≤ total (in_batch x) v.own.takes
fair_runs v x k = let f = k.fair x in let a = batch_given 0 x v.own.runs in let b = batch_items x v.own.takes in omega arith

-- ALL ENDS

-- the first run of a log is all buffers, if each end keeps to the protocol
first_is : (views : List View) → ((j : ℕ) (v : View) → get_elem? views j ≡ some v → KeepsTo Lends v) → (log : List (Owned Batch)) → ListedOnce log (map (λ (v : View). v.own.runs) views) → Adjacent 0 log
    → first_items (map run_in log) ≡ all_buffers (length (first_items (map run_in log)))
first_is views keeps [] filed near = refl
first_is views keeps (o ∷ log) filed near =
    let at = filed.stands 0 o refl in
    let u = at_map_back (λ (v : View). v.own.runs) views o.0 at.0 at.1 in
    let its : get_elem? u.0.own.runs o.1 ≡ some o.2 = subst (λ (z : List Batch). get_elem? z o.1 ≡ some o.2) (sym u.2) at.2 in
    let s = (keeps o.0 u.0 u.1).stock o.1 (placed o.2) (at_map placed u.0.own.runs o.1 o.2 its) near.0 in
    s.1 ∙ ap all_buffers (sym (ap length s.1 ∙ length-range_with_len 0 s.0))

head_or : List ℕ → List (List ℕ) → List ℕ
head_or d [] = d
head_or d (x ∷ xs) = x

head_is : (d x : List ℕ) (xs : List (List ℕ)) → head_or d (x ∷ xs) ≡ x
unfolding head_or
head_is d x xs = refl

-- a log whose first line is all buffers of a pool has so many in it
first_long : (log : List (Owned Batch)) (n : ℕ) (batches : List (List ℕ)) → map line_of (map entry_of log) ≡ all_buffers n ∷ batches → length (first_items (map run_in log)) ≡ n
first_long [] n batches e = absurd (let z : 0 ≡ suc (length batches) = ap length e in omega arith)
first_long (o ∷ log) n batches e = let is : line_of o.2 ≡ all_buffers n = sym (head_is [] (line_of o.2) (map line_of (map entry_of log))) ∙ (ap (head_or []) e ∙ head_is [] (all_buffers n) batches) in
    ap length is ∙ length-range_with_len 0 n

still_open : (shut : Bool) → ◌≡◌ {A = ℕ} (if shut then 1 else 0) 0 → shut ≡ false
still_open true e = absurd (omega arith)
still_open false e = refl

module _ (key : Shape) (s : State ℕ View) (keeps : (j : ℕ) (v : View) → get_elem? s.views j ≡ some v → KeepsTo Lends v) (shows : ShowsQueue key s) where
  abbrev views : List View
  views = s.views

  abbrev queue : Queue
  queue = shows.queue

  abbrev count : ℕ
  count = count_in queue

  accounts : Accounts (λ (v : View). v.own.runs) (λ (v : View). v.own.takes) views 0 queue.history queue.taken
  accounts = record {
    runs = shows.shown.runs;
    takings = shows.shown.takings;
    history_is = shows.shown.history;
    once = shows.shown.once;
    near = shows.shown.side_by_side;
    solid = shows.history.solid;
    taken_once = shows.shown.taken_once;
    taken_items = shows.shown.taken_items;
  }

  first : first_items queue.history ≡ all_buffers count
  first = ap first_items shows.shown.history ∙ (first_is views keeps shows.shown.runs shows.shown.once shows.shown.side_by_side ∙ ap (λ z. all_buffers (length (first_items z))) (sym shows.shown.history))

  known : (j : ℕ) (v : View) (n : ℕ) → get_elem? views j ≡ some v → IsStocked n v → count ≡ n
  known j v n at stocked = ∥∥₁_elim stocked (ℕ_set _ _) (λ (r : (rest : List (List ℕ)) × (v.seen.object.batches ≡ all_buffers n ∷ rest)).
      (let g = shows.seen j v at in
      let now : map line_of (map entry_of shows.shown.runs) ≡ all_buffers n ∷ (r.0 ++ g.more.0) = shows.batches ∙ (sym g.more.1 ∙ ap (λ (z : List (List ℕ)). z ++ g.more.0) r.1) in
      ap (λ z. length (first_items z)) shows.shown.history ∙ first_long shows.shown.runs n (r.0 ++ g.more.0) now))

  sum : (x : ℕ) → total (λ v. held v x) views + times x (waiting queue) ≡ times x (all_buffers count)
  sum x =
      let same = total_alike (λ (v : View). held v x) (λ (v : View). total (in_batch x) v.own.takes - total (in_later x) v.own.runs) views
      (λ j v at. let a = times_released x v.own.runs in let b = times_lines x v.own.takes in omega arith) in
      let all = held_sum (λ (v : View). v.own.runs) (λ (v : View). v.own.takes) views 0 queue.history queue.taken accounts x (λ j v at. fair_runs v x (keeps j v at)) in
      let f = ap (times x) first in omega arith

  none_hold : (x : ℕ) → total (λ v. held v x) views ≡ 0 → NoneHolds views x
  none_hold x none j v at = let h = one_of (λ (u : View). held u x) views j v at in omega arith

  one_owner : (x : ℕ) → x < count → HasOneOwner (waiting queue) views x
  one_owner x below = let s = sum x in let o = all_once x count below in dite (ℕ_discrete (times x (waiting queue)) 1)
      (λ one. the_queue one (none_hold x (omega arith)))
      (λ no. let a = one_alone (λ (v : View). held v x) views (omega arith) in the_end a.number a.one a.here a.is a.others (omega arith))

  never_shut : NoneShut views → queue.shut ≡ false
  never_shut none = still_open queue.shut (sym shows.shut_once ∙ total_none shuts_of views none)

  pub each_once : EachOnce count queue views
  each_once = record {
    first = first;
    known = known;
    sum = sum;
    one = one_owner;
    other = λ x past. let s = sum x in let o = all_other x count past in (omega arith, none_hold x (omega arith));
    is_open = never_shut;
  }
