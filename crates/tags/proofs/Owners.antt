-- Each tag has one owner, by counting over all runs and takings of the queue.
use Rattle.tags.proofs.Common.{◌≡◌, ℕ, Bool, true, false, suc, ◌+◌, ◌-◌, ◌<◌, ◌≤◌, ◌⊎◌, inl, inr, ⊎_elim, List, [], ◌∷◌, ◌∙◌, map, length, refl, sym, ap, subst, arith, if◌then◌else◌, dite, some, ℕ_discrete, dec_lt, get_elem?, Run, Batch, Positions, Owned, ListedOnce, Adjacent, all_places, head_of, placed_lines, run_in, total, first_items, returned, times, batch_given, batch_items, placed, Accounts, held_sum, in_batch, in_later, at_map_back, all_once, all_other, one_alone, total_alike, total_none, Shape, View, KeepsTo, shuts_of, count_in, held, released, Lends, all_tags}
use Rattle.atomic_table.specs.Table.{State}
use Rattle.atomic_table.proofs.Lists.{at_map}
use Rattle.event_theory.specs.Queues.{Queue}
use Rattle.table_theory.proofs.Totals.{one_of}
use Rattle.claim_queue.specs.Between.{ShowsQueue}
use Rattle.claim_queue.specs.Changes.{empty}
use Rattle.tags.specs.Between.{EachOnce, HasOneOwner, NoneHolds, the_queue, the_end, waiting}

-- a history of runs with a place has an item
pub no_places : (log : List (Owned Batch)) → map run_in log ≡ [] → length (all_places log) ≡ 0
no_places [] none = refl
no_places (o ∷ log) none = absurd (let n : suc (length (map run_in log)) ≡ 0 = ap length none in omega arith)

-- the first run is the line at the first position, if each end keeps to the protocol
pub first_line : (first : ℕ) (views : List View) → ((j : ℕ) (v : View) → get_elem? views j ≡ some v → KeepsTo Lends v) → ((j : ℕ) (v : View) → get_elem? views j ≡ some v → count_in v ≡ first)
    → (log : List (Owned Batch)) → ListedOnce log (map (λ (v : View). v.own.runs) views) → Adjacent first log → (map run_in log ≡ []) ⊎ (first_items (map run_in log) ≡ all_tags first)
first_line first views keeps counts [] filed near = inl refl
first_line first views keeps counts (o ∷ log) filed near = inr
    (let at = filed.stands 0 o refl in
    let u = at_map_back (λ (v : View). v.own.runs) views o.0 at.0 at.1 in
    let its : get_elem? u.0.own.runs o.1 ≡ some o.2 = subst (λ (z : List Batch). get_elem? z o.1 ≡ some o.2) (sym u.2) at.2 in
    let is = counts o.0 u.0 u.1 in
    (keeps o.0 u.0 u.1).first o.1 (placed o.2) (at_map placed u.0.own.runs o.1 o.2 its) (near.0 ∙ sym is) ∙ ap all_tags is)

still_open : (shut : Bool) → ◌≡◌ {A = ℕ} (if shut then 1 else 0) 0 → shut ≡ false
still_open true e = absurd (omega arith)
still_open false e = refl

-- each tag is among all tags once at most
at_most_once : (x count : ℕ) → times x (all_tags count) ≤ 1
at_most_once x count = dite (dec_lt x count) (λ below. let o = all_once x count below in omega arith) (λ past. let o = all_other x count (omega arith) in omega arith)

module _ (key : Shape) (s : State Unit View) (keeps : (j : ℕ) (v : View) → get_elem? s.views j ≡ some v → KeepsTo Lends v) (firsts : (j : ℕ) (v : View) → get_elem? s.views j ≡ some v → v.first ≡ empty key) (shows : ShowsQueue key s) where
  abbrev views : List View
  views = s.views

  abbrev queue : Queue
  queue = shows.queue

  abbrev logs : List (Owned Batch)
  logs = shows.shown.runs

  counts : (j : ℕ) (v : View) → get_elem? views j ≡ some v → count_in v ≡ key.first
  counts j v at = ap (λ (z : Positions). z.first) (firsts j v at)

  accounts : Accounts (λ (v : View). v.own.runs) (λ (v : View). v.own.takes) views key.first queue.history queue.taken
  accounts = record {
    runs = shows.shown.runs;
    takings = shows.shown.takings;
    history_is = shows.shown.history;
    once = shows.shown.once;
    near = shows.shown.side_by_side;
    solid = shows.history.solid;
    taken_once = shows.shown.taken_once;
    taken_items = shows.shown.taken_items;
  }

  -- what an end released, by its runs
  given : (j : ℕ) (v : View) (x : ℕ) → get_elem? views j ≡ some v → times x (released v) ≡ total (in_later key.first x) v.own.runs
  given j v x at = ap (λ (z : ℕ). times x (returned z (placed_lines v.own.runs))) (counts j v at) ∙ batch_given key.first x v.own.runs

  sum : (x : ℕ) → total (λ v. held v x) views + times x (waiting queue) ≡ times x (first_items queue.history)
  sum x =
      let same = total_alike (λ (v : View). held v x) (λ (v : View). total (in_batch x) v.own.takes - total (in_later key.first x) v.own.runs) views
      (λ j v at. let a = given j v x at in let b = batch_items x v.own.takes in omega arith) in
      let all = held_sum (λ (v : View). v.own.runs) (λ (v : View). v.own.takes) views key.first queue.history queue.taken accounts x
      (λ j v at. let a = given j v x at in let b = batch_items x v.own.takes in let f = (keeps j v at).fair x in omega arith) in omega arith

  first : (queue.history ≡ []) ⊎ (first_items queue.history ≡ all_tags key.first)
  first = ⊎_elim (λ none. inl (shows.shown.history ∙ none)) (λ all. inr (ap first_items shows.shown.history ∙ all)) (first_line key.first views keeps counts logs shows.shown.once shows.shown.side_by_side)

  begun : (j : ℕ) (v : View) → get_elem? views j ≡ some v → key.first < head_of v.seen.object → first_items queue.history ≡ all_tags key.first
  begun j v at past = ⊎_elim
      (λ none. absurd (let g = shows.seen j v at in let a = g.first in let b = g.longer in let c = shows.first in
      let d : length shows.now.object.places ≡ 0 = ap length (sym shows.history.places) ∙ no_places logs (sym shows.shown.history ∙ none) in omega arith))
      (λ all. all) first

  once : (x : ℕ) → times x (first_items queue.history) ≤ 1
  once x = ⊎_elim (λ none. let e : times x (first_items queue.history) ≡ 0 = ap (λ (z : List Run). times x (first_items z)) none in omega arith)
      (λ all. let e = ap (times x) all in let o = at_most_once x key.first in omega arith) first

  none_hold : (x : ℕ) → total (λ v. held v x) views ≡ 0 → NoneHolds views x
  none_hold x none j v at = let h = one_of (λ (u : View). held u x) views j v at in omega arith

  one_owner : (x : ℕ) → 0 < times x (first_items queue.history) → HasOneOwner (waiting queue) views x
  one_owner x some_one = let s = sum x in let o = once x in dite (ℕ_discrete (times x (waiting queue)) 1)
      (λ one. the_queue one (none_hold x (omega arith)))
      (λ no. let a = one_alone (λ (v : View). held v x) views (omega arith) in the_end a.number a.one a.here a.is a.others (omega arith))

  pub each_once : EachOnce key.first queue views
  each_once = record {
    counts = counts;
    first = first;
    begun = begun;
    sum = sum;
    one = one_owner;
    is_open = λ none. still_open queue.shut (sym shows.shut_once ∙ total_none shuts_of views none);
    other = λ x none. let s = sum x in (omega arith, none_hold x (omega arith));
  }
