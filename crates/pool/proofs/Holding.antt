-- What an end holds after a call of the queue.
use Rattle.pool.proofs.Common.{◌≡◌, ℕ, ◌+◌, ◌<◌, ◌≤◌, Bool, true, List, [], ◌∷◌, ◌++◌, ◌∙◌, length, sym, ap, subst, arith, ⊎_elim, ∥∥₁_elim, ∥∥₁_map, le_prop, length-range_with_len, concat, cond, not, some, get_elem?, Batch, line_of, at_joined, at_push, total_push, lines_taken, Grows, items_of, BatchState, View, of_batches, AbsState, ExtendsTrace, Reaches, Step, all_buffers, times, acquired, released, held, is_later, IsFair, HoldsSame, HoldsMore, HoldsLess, Holds, IsStocked, ListsFirst, in_batch, times_concat, total_joined}
use Rattle.std.proofs.lemmas.Bool.{ne_eqb}
use Rattle.std.proofs.lemmas.List.{length-append}
use Rattle.pool.proofs.Owners.{in_later, released_of, times_released}

-- LISTS

-- the pool's first batch stays the first
pub stocked_on : (count : ℕ) (v w : View) → Grows v.seen.object w.seen.object → IsStocked count v → IsStocked count w
stocked_on count v w g s = ∥∥₁_map s (λ (r : (rest : List (List ℕ)) × (v.seen.object.batches ≡ all_buffers count ∷ rest)).
    (r.0 ++ g.more.0, sym g.more.1 ∙ ap (λ (z : List (List ℕ)). z ++ g.more.0) r.1))

-- what the queue's laws say of the steps between two views of an end
abbrev pub Since : View → View → Type 0
Since v w = (entries : List (Step BatchState)) → ExtendsTrace v entries w → ∥ Reaches of_batches v.seen w.seen ∥₁

abbrev pub Rises : Type 0
Rises = (m n : AbsState BatchState) → Reaches of_batches m n → Grows m.object n.object

pub stocked_since : (count : ℕ) (v w : View) (entries : List (Step BatchState)) → ExtendsTrace v entries w → Since v w → Rises → IsStocked count v → IsStocked count w
stocked_since count v w entries a since rises s = ∥∥₁_elim (since entries a) squash₁ (λ (r : Reaches of_batches v.seen w.seen). stocked_on count v w (rises v.seen w.seen r) s)

-- an end that has seen it has seen as many items at least
pub stocked_long : (count : ℕ) (v : View) → IsStocked count v → count ≤ length (items_of v.seen.object)
stocked_long count v s = ∥∥₁_elim s le_prop (λ (r : (rest : List (List ℕ)) × (v.seen.object.batches ≡ all_buffers count ∷ rest)).
    (let a = ap (λ (z : List (List ℕ)). length (concat z)) r.1 in let b = length-append (all_buffers count) (concat r.0) in let c = length-range_with_len 0 count in omega arith))

pub lists_same : (count : ℕ) (v w : View) → w.own.runs ≡ v.own.runs → ListsFirst count v → ListsFirst count w
lists_same count v w runs l m e at = l m e (subst (λ (z : List Batch). get_elem? z m ≡ some e) runs at)

-- COUNTS

same_released : (v w : View) (x : ℕ) → w.own.runs ≡ v.own.runs → times x (released w) ≡ times x (released v)
same_released v w x runs = ap (λ (z : List Batch). times x (released_of z)) runs

same_acquired : (v w : View) (x : ℕ) → lines_taken w ≡ lines_taken v → times x (acquired w) ≡ times x (acquired v)
same_acquired v w x takes = ap (λ (z : List (List ℕ)). times x (concat z)) takes

more_acquired : (v w : View) (x : ℕ) (line : List ℕ) → lines_taken w ≡ lines_taken v ++ line ∷ [] → times x (acquired w) ≡ times x (acquired v) + times x line
more_acquired v w x line takes =
    let a = ap (λ (z : List (List ℕ)). times x (concat z)) takes in
    let b = times_concat x (lines_taken v ++ line ∷ []) in let c = times_concat x (lines_taken v) in
    let d = total_push (times x) (lines_taken v) line in omega arith

more_released : (v w : View) (x : ℕ) (e : Batch) → w.own.runs ≡ v.own.runs ++ e ∷ [] → is_later e ≡ true → times x (released w) ≡ times x (released v) + in_batch x e
more_released v w x e runs later =
    let a = ap (λ (z : List Batch). times x (released_of z)) runs in
    let b = times_released x (v.own.runs ++ e ∷ []) in let c = times_released x v.own.runs in
    let d = total_push (in_later x) v.own.runs e in
    let f : in_later x e ≡ in_batch x e = ap (λ (z : Bool). cond z (in_batch x e) 0) later in omega arith

-- CALLS

-- nothing was put and nothing taken
pub same_fair : (v w : View) → w.own.runs ≡ v.own.runs → lines_taken w ≡ lines_taken v → w.own.shuts ≡ v.own.shuts → IsFair v → IsFair w
same_fair v w runs takes shuts f = (λ x. (let a = same_released v w x runs in let b = same_acquired v w x takes in let h = f.0 x in omega arith), shuts ∙ f.1)

pub same_held : (v w : View) → w.own.runs ≡ v.own.runs → lines_taken w ≡ lines_taken v → HoldsSame v w
same_held v w runs takes x = let a = same_released v w x runs in let b = same_acquired v w x takes in omega arith

-- a line was taken
pub took_fair : (v w : View) (line : List ℕ) → w.own.runs ≡ v.own.runs → lines_taken w ≡ lines_taken v ++ line ∷ [] → w.own.shuts ≡ v.own.shuts → IsFair v → IsFair w
took_fair v w line runs takes shuts f = (λ x. (let a = same_released v w x runs in let b = more_acquired v w x line takes in let h = f.0 x in omega arith), shuts ∙ f.1)

pub took_held : (v w : View) (line : List ℕ) → w.own.runs ≡ v.own.runs → lines_taken w ≡ lines_taken v ++ line ∷ [] → IsFair v → HoldsMore line v w
took_held v w line runs takes f x = let a = same_released v w x runs in let b = more_acquired v w x line takes in let h = f.0 x in omega arith

pub more_holds : (v w : View) (line : List ℕ) → HoldsMore line v w → Holds w line
more_holds v w line h x = let a = h x in omega arith

-- a batch was put, of buffers that the end holds
module _ (v w : View) (e : Batch) (buffers : List ℕ) (runs : w.own.runs ≡ v.own.runs ++ e ∷ []) (past : 0 < e.start) (line : line_of e ≡ buffers) where
  later : is_later e ≡ true
  later = ap not (ne_eqb e.start 0 (λ z. omega arith))

  pub put_fair : lines_taken w ≡ lines_taken v → w.own.shuts ≡ v.own.shuts → Holds v buffers → IsFair v → IsFair w
  put_fair takes shuts holds f = (λ x. (let a = more_released v w x e runs later in let b = same_acquired v w x takes in let c = ap (times x) line in let d = holds x in let h = f.0 x in omega arith), shuts ∙ f.1)

  pub put_held : lines_taken w ≡ lines_taken v → Holds v buffers → IsFair v → HoldsLess buffers v w
  put_held takes holds f x = let a = more_released v w x e runs later in let b = same_acquired v w x takes in let c = ap (times x) line in let d = holds x in let h = f.0 x in omega arith

  pub put_lists : (count : ℕ) → ListsFirst count v → ListsFirst count w
  put_lists count l m d at start = ⊎_elim (λ old. l m d old start) (λ new. absurd (let s = ap (λ (z : Batch). z.start) new.1 in omega arith))
      (at_push v.own.runs e d m (subst (λ (z : List Batch). get_elem? z m ≡ some d) runs at))

-- ENDS

-- an end took in another
module _ (v u w : View) (runs : w.own.runs ≡ v.own.runs ++ u.own.runs) (takes : lines_taken w ≡ lines_taken v ++ lines_taken u) where
  both_released : (x : ℕ) → times x (released w) ≡ times x (released v) + times x (released u)
  both_released x =
      let a = ap (λ (z : List Batch). times x (released_of z)) runs in let b = times_released x (v.own.runs ++ u.own.runs) in
      let c = times_released x v.own.runs in let d = times_released x u.own.runs in let t = total_joined (in_later x) v.own.runs u.own.runs in omega arith

  both_acquired : (x : ℕ) → times x (acquired w) ≡ times x (acquired v) + times x (acquired u)
  both_acquired x =
      let a = ap (λ (z : List (List ℕ)). times x (concat z)) takes in let b = times_concat x (lines_taken v ++ lines_taken u) in
      let c = times_concat x (lines_taken v) in let d = times_concat x (lines_taken u) in let t = total_joined (times x) (lines_taken v) (lines_taken u) in omega arith

  pub both_fair : w.own.shuts ≡ v.own.shuts + u.own.shuts → IsFair v → IsFair u → IsFair w
  both_fair shuts f g = (λ x. (let a = both_released x in let b = both_acquired x in let h = f.0 x in let i = g.0 x in omega arith), (let s = f.1 in let t = g.1 in omega arith))

  pub both_held : IsFair v → IsFair u → (x : ℕ) → held w x ≡ held v x + held u x
  both_held f g x = let a = both_released x in let b = both_acquired x in let h = f.0 x in let i = g.0 x in omega arith

  pub both_list : (count : ℕ) → ListsFirst count v → ListsFirst count u → ListsFirst count w
  both_list count l k m e at start = ⊎_elim (λ old. l m e old start) (λ t. k t.0 e t.2 start)
      (at_joined v.own.runs u.own.runs m e (subst (λ (z : List Batch). get_elem? z m ≡ some e) runs at))
