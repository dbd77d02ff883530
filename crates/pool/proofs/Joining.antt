-- What splitting, joining and closing leave of holders.
use Rattle.pool.proofs.Common.{◌≡◌, ℕ, zero, suc, ◌+◌, ◌<◌, List, [], ◌∷◌, map, take, refl, sym, ap, subst, arith, ∥∥₁_elim, le_prop, concat, some, some-injective, some-ne-none, get_elem?, Batch, line_of, Owned, entry_of, WereOpen, IsListed, IsCut, given, kept, ends_word, lines_put, lines_taken, items_of, EndRecord, View, nothing_did, all_buffers, times, released, held, IsFair, IsStocked, ListsFirst, all_once, times_append, times_concat, times_split, total_map, first_apart, in_batch, times_lines}
use Rattle.batch_queue.specs.declared.ends.BatchQueue.{BatchQueue}
use Rattle.batch_queue.specs.Closings.{ClosedNow}
use Rattle.batch_queue.specs.Endings.{SplitBy, IsNewEnd}
use Rattle.batch_queue.specs.Placed.{positions_of}
use Rattle.pool.specs.declared.lending.Lending.{Lending}
use Rattle.pool.specs.declared.pool.Pool.{Pool}
use Rattle.table_theory.proofs.Weighing.{filed_total}
use Rattle.pool.proofs.Owners.{released_of, times_released}
use Rattle.pool.proofs.Steps.{DidNothing, looked}

-- SPLITS

-- the end has the runs and takings that it had
pub divided : (v w : View) → SplitBy v w → (w.own.runs ≡ v.own.runs) × (lines_taken w ≡ lines_taken v) × (w.own.shuts ≡ v.own.shuts)
divided v w d = ((λ i. (d.own i).runs), ap (map line_of) (λ i. (d.own i).takes), (λ i. (d.own i).shuts))

-- the new end has none
pub born_runs : (v w born : View) → IsNewEnd v w born → born.own.runs ≡ []
born_runs v w born is = ap (λ (z : View). z.own.runs) is

pub born_takes : (v w born : View) → IsNewEnd v w born → lines_taken born ≡ []
born_takes v w born is = ap (λ (z : View). lines_taken z) is

-- an end that did nothing is fair
pub idle_fair : (v : View) → v.own ≡ nothing_did → IsFair v
idle_fair v is = (λ x. (let a = ap (λ (z : EndRecord). times x (released_of z.runs)) is in omega arith), ap (λ (z : EndRecord). z.shuts) is)

pub born_fair : (v w born : View) → IsNewEnd v w born → IsFair born
born_fair v w born is = idle_fair born (ap (λ (z : View). z.own) is)

pub idle_held : (v : View) → lines_taken v ≡ [] → (x : ℕ) → held v x ≡ 0
idle_held v takes x = let a = ap (λ (z : List (List ℕ)). times x (concat z)) takes in omega arith

pub idle_lists : (count : ℕ) (v : View) → v.own.runs ≡ [] → ListsFirst count v
idle_lists count v runs m e at start = absurd (some-ne-none e (sym (subst (λ (z : List Batch). get_elem? z m ≡ some e) runs at)))

pub born_stocked : (count : ℕ) (v w born : View) → IsNewEnd v w born → IsStocked count w → IsStocked count born
born_stocked count v w born is s = subst (λ (z : View). IsStocked count z) (sym is) s

-- the shares of both
pub split_share : (v w born : View) → SplitBy v w → IsNewEnd v w born → (w.member.share ≡ kept v.member.share) × (born.member.share ≡ given v.member.share)
split_share v w born d b = ((λ k. (d.member k).share), ap (λ (z : View). z.member.share) b)

-- CLOSES

-- lines that items are cut into have what the items have
cut_times : (x : ℕ) (items : List ℕ) (lines : List (List ℕ)) → IsCut items lines → times x (concat lines) ≡ times x items
cut_times x items lines c =
    let a = filed_total (times x) c.cut (lines ∷ []) c.once in let b = times_concat x lines in
    let d = times_concat x (map entry_of c.cut) in let e = total_map (times x) entry_of c.cut in let f = ap (times x) c.whole in omega arith

-- an entry of the only list
only_list : (l k : List Batch) (c m : ℕ) (e : Batch) → get_elem? (l ∷ []) c ≡ some k → get_elem? k m ≡ some e → get_elem? l m ≡ some e
only_list l k zero m e at at' = subst (λ (z : List Batch). get_elem? z m ≡ some e) (sym (some-injective l k at)) at'
only_list l k (suc c) m e at at' = absurd (some-ne-none k (sym at))

module _ (count : ℕ) (v : View) (lists : ListsFirst count v) where
  -- what was put is what was released, and all buffers
  first_put : (x : ℕ) (log : List (Owned Batch)) → IsListed 0 (positions_of v.seen.object).places log (v.own.runs ∷ []) → 0 < times 0 (concat (lines_put v)) → times x (released v) + times x (all_buffers count) ≡ times x (concat (lines_put v))
  first_put x [] l some_put = absurd (let a = filed_total (in_batch 0) [] (v.own.runs ∷ []) l.filed in let b = times_lines 0 v.own.runs in omega arith)
  first_put x (o ∷ log) l some_put =
      let s = l.filed.stands 0 o refl in
      let a = first_apart x 0 o log (v.own.runs ∷ []) l.filed l.adjacent (l.solid 0 o refl) in
      let b = ap (times x) (lists o.1 o.2 (only_list v.own.runs s.0 o.0 o.1 o.2 s.1 s.2) l.adjacent.0) in
      let c = times_released x v.own.runs in let d = times_lines x v.own.runs in omega arith

  -- all buffers are put at least
  all_put : (rest : List (List ℕ)) → v.seen.object.batches ≡ all_buffers count ∷ rest → 0 < count → 0 < times 0 (items_of v.seen.object)
  all_put rest is some_buffer = let a = ap (λ (z : List (List ℕ)). times 0 (concat z)) is in let b = times_append 0 (all_buffers count) (concat rest) in let d = all_once 0 count some_buffer in omega arith

  -- what the last end holds, and what is left, are all buffers
  pub all_there : (put taken : ℕ) (left : List ℕ) → 0 < count → IsStocked count v → IsFair v → ClosedNow v put taken left → (x : ℕ) → held v x + times x left ≡ times x (all_buffers count)
  all_there put taken left some_buffer stocked fair closed x =
      let some_put : 0 < times 0 (items_of v.seen.object) = ∥∥₁_elim stocked le_prop (λ (r : (rest : List (List ℕ)) × (v.seen.object.batches ≡ all_buffers count ∷ rest)). all_put r.0 r.1 some_buffer) in
      let zeros = cut_times 0 (items_of v.seen.object) (lines_put v) closed.settled.puts_are in
      let puts = cut_times x (items_of v.seen.object) (lines_put v) closed.settled.puts_are in
      let takes = cut_times x (take taken (items_of v.seen.object)) (lines_taken v) closed.settled.takes_are in
      let first = first_put x closed.listed.runs closed.listed.runs_are (omega arith) in
      let rest = ap (times x) closed.left_is in let both = times_split x taken (items_of v.seen.object) in let f = fair.0 x in omega arith

-- A refused close

pub open_same : (v w : View) (others : ℕ) → WereOpen ends_word v others w → DidNothing v w
open_same v w others o = looked v w _ o.tallied.made

-- a pool is its queue and its number of buffers
pub same_pool : (queue other : BatchQueue Lending) (count : ℕ) (some_one some_other : 0 < count) → queue ≡ other → ◌≡◌ {A = Pool} (record { queue = queue; count = count; some = some_one }) (record { queue = other; count = count; some = some_other })
same_pool queue other count some_one some_other is = λ i. record { queue = is i; count = count; some = le_prop some_one some_other i }

pub same_takes : (v w : View) → DidNothing v w → lines_taken w ≡ lines_taken v
same_takes v w d = ap (map line_of) d.takes_are
