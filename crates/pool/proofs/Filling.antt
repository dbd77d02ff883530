-- The first put of a new queue is not refused, and it is the queue's first batch.
use Rattle.pool.proofs.Common.{◌≡◌, ℕ, zero, suc, ◌+◌, ◌*◌, ◌/◌, ◌^◌, ◌<◌, ◌≤◌, Bool, true, false, List, [], ◌∷◌, ◌++◌, ◌∙◌, map, length, refl, sym, ap, subst, arith, ⊎_elim, eq-eqb, append_assoc, max, length-range_with_len, cond, not, AllByRecursion, concat, dite, some, some-injective, some-ne-none, get_elem?, dec_lt, ∥∥₁_elim, ℕ_set, Batch, AbsState, line_of, ExtendsTrace, IsValidView, IsValidStep, Step, change, load, IsWhole, all_after, alone_since, PutRefusal, BatchState, Shape, head_word, mark, mark_word, items_of, with_batch, with_up, OnlyLoads, View, of_batches, FoundOther, FoundShut, IsPut, LackedRoom, RefusedPut, WasSpent, published, newcomer, all_buffers, times, acquired, released, held, is_later, IsFair, IsStocked, ListsFirst, PutAllOnce, in_batch}
use Rattle.std.proofs.Math.Pow.{pow_mono}
use Rattle.table_theory.specs.Courses.{Continues}
use Rattle.batch_queue.specs.declared.refusals.PutRefusal.TheVariants as not_put
use Rattle.batch_queue.specs.Walks.{FreeBy, at_once, by_help}
use Rattle.pool.proofs.Owners.{in_later, released_of, times_released}
use Rattle.pool.proofs.Releasing.{line_is}
use Rattle.pool.proofs.Steps.{Did, is_put}

abbrev Steps : Type 0
Steps = List (Step BatchState)

-- what the queue's laws say of the head and of the free position that a step found
abbrev pub HeadSays : Type 0
HeadSays = (e : Step BatchState) → e.word ≡ head_word → IsValidStep of_batches e → e.found ≡ length (items_of e.then.object) + mark e.then.object.shut

module _ (shape : Shape) (v w : View) (new : v ≡ newcomer shape) (x : IsValidView of_batches v) (y : IsValidView of_batches w) (head_says : HeadSays) where
  whole : IsWhole v.member.share
  whole = ap (λ (z : View). z.member.share) new

  -- the only end's entries are all steps since
  alone : (entries : Steps) → ExtendsTrace v entries w → Continues v.seen entries w.seen × AllByRecursion (IsValidStep of_batches) entries
  alone entries a = alone_since of_batches v w entries whole x y a

  -- a head that was found in the empty queue is 0
  no_head : (head : ℕ) (m : AbsState BatchState) → v.seen ≡ m → IsValidStep of_batches (load head_word head m) → head ≡ 0
  no_head head m is real =
      let a = head_says (load head_word head m) refl real in
      let b : length (items_of m.object) + mark m.object.shut ≡ 0 = ap (λ (z : AbsState BatchState). length (items_of z.object) + mark z.object.shut) (sym is ∙ ap (λ (z : View). z.seen) new) in a ∙ b

  module _ (room count : ℕ) (fits : count ≤ room) (few : count < 4611686018427387904) where
    -- a head, and then the free position, at once
    looked_once : (head free : ℕ) (moved : _) (looks more : Steps) (m : AbsState BatchState) → head ≡ 0 → FreeBy room (head + count) free moved looks → Continues m (looks ++ more) w.seen → Continues m more w.seen
    looked_once head free moved looks more m none (at_once near same n is) c = let d = subst (λ (z : Steps). Continues m (z ++ more) w.seen) is c in subst (λ (z : AbsState BatchState). Continues z more w.seen) (sym d.0) d.1
    looked_once head free moved looks more m none (by_help first n help less h is) c = absurd (omega arith)

    not_lacked : (head free : ℕ) (moved : _) → LackedRoom (λ entries. OnlyLoads v entries w) room count count head free moved → ⊥
    not_lacked head free moved l = let a = alone (load head_word head l.at_head ∷ l.looks) l.added.adds in let n = no_head head l.at_head a.0.0 a.1.0 in let o = l.over in omega arith

    no_other : (head now : ℕ) → FoundOther (λ entries. OnlyLoads v entries w) room count count head now → now ≡ 0
    no_other head now f =
        let last : Step BatchState = load head_word now f.at_exchange in
        let a = alone (load head_word head f.at_head ∷ (f.looks ++ last ∷ [])) f.added.adds in
        let n = no_head head f.at_head a.0.0 a.1.0 in
        let c = looked_once head f.free f.moved f.looks (last ∷ []) f.at_head n f.looked a.0.1 in
        no_head now f.at_exchange (a.0.0 ∙ c.0) (all_after (IsValidStep of_batches) f.looks (last ∷ []) a.1.1).0

    pub not_refused : (r : PutRefusal) → 0 < count → RefusedPut room v count r w → ⊥
    not_refused not_put.NoItems some_item h = let e = h.0 in omega arith
    not_refused not_put.TooLong some_item h = let e = h.0 in omega arith
    not_refused not_put.Closed some_item h = ⊎_elim
        (λ (f : FoundShut (λ entries. OnlyLoads v entries w)). (let a = alone (load head_word f.head f.at_head ∷ []) f.added.adds in let n = no_head f.head f.at_head a.0.0 a.1.0 in let m = f.marked in omega arith))
        (λ t. (let n = no_other t.0 t.1 t.3 in let m = t.2 in omega arith)) h.1
    not_refused not_put.Spent some_item h = let f : WasSpent (λ entries. OnlyLoads v entries w) count = h.1 in let a = alone (load head_word f.head f.at_head ∷ []) f.added.adds in let n = no_head f.head f.at_head a.0.0 a.1.0 in let m = f.spent in omega arith
    not_refused (not_put.Full head free) some_item h = not_lacked head free false h.1
    not_refused (not_put.Lost now) some_item h = ⊎_elim (λ t. not_lacked now t.0 true t.1) (λ t. (let n = no_other t.0 now t.3 in let m = t.1 in omega arith)) h.1

    -- the put was the queue's first batch
    pub put_first : (start : ℕ) (items : List ℕ) → length items ≡ count → IsPut room v start items w → (start ≡ 0) × (w.seen.object.batches ≡ items ∷ [])
    put_first start items long (number, m, c) =
        let claim : Step BatchState = change head_word start c.at_claim (with_batch c.at_claim.object items) in
        let publish : Step BatchState = change (mark_word room start) number m (with_up m.object start (start + length items)) in
        let a = alone ((load head_word start c.at_head ∷ (c.looks ++ claim ∷ [])) ++ publish ∷ []) c.added.adds in
        let n = no_head start c.at_head a.0.0 a.1.0 in
        let on : Continues c.at_head (c.looks ++ (claim ∷ publish ∷ [])) w.seen = subst (λ (z : Steps). Continues c.at_head z w.seen) (append_assoc c.looks (claim ∷ []) (publish ∷ [])) a.0.1 in
        let looked : FreeBy room (start + count) c.free c.moved c.looks = subst (λ (z : ℕ). FreeBy room (start + z) c.free c.moved c.looks) long c.looked in
        let d = looked_once start c.free c.moved c.looks (claim ∷ publish ∷ []) c.at_head n looked on in (
          n,
          ap (λ (z : AbsState BatchState). z.object.batches) (sym d.1.1) ∙ (ap (λ (z : AbsState BatchState). z.object.batches) (sym d.1.0)
              ∙ ap (λ (z : AbsState BatchState). z.object.batches ++ items ∷ []) (sym d.0 ∙ (sym a.0.0 ∙ ap (λ (z : View). z.seen) new))),
        )

-- the view of an end that has put all buffers by one batch, and done nothing else
module _ (count : ℕ) (shape : Shape) (v w : View) (new : v ≡ newcomer shape) (start : ℕ) (none : start ≡ 0) (items : List ℕ) (all : items ≡ all_buffers count)
    (d : Did v w (v.own.runs ++ record { start = start; places = map published items } ∷ []) v.own.takes) where
  abbrev batch : Batch
  batch = record { start = start; places = map published items }

  runs : w.own.runs ≡ batch ∷ []
  runs = d.runs_are ∙ ap (λ (z : View). z.own.runs ++ batch ∷ []) new

  none_released : (x : ℕ) → times x (released w) ≡ 0
  none_released x =
      let a = ap (λ (z : List Batch). times x (released_of z)) runs in let b = times_released x (batch ∷ []) in
      let c : is_later batch ≡ false = ap not (eq-eqb start 0 none) in
      let e : in_later x batch ≡ 0 = ap (λ (z : Bool). cond z (in_batch x batch) 0) c in omega arith

  pub first_fair : IsFair w
  first_fair = (λ x. (let a = none_released x in omega arith), d.shuts_are ∙ ap (λ (z : View). z.own.shuts) new)

  pub first_held : (x : ℕ) → held w x ≡ 0
  first_held x = let a : times x (acquired w) ≡ 0 = ap (λ (z : List Batch). times x (concat (map line_of z))) (d.takes_are ∙ ap (λ (z : View). z.own.takes) new) in omega arith

  pub first_lists : ListsFirst count w
  first_lists m e at start_is = only m (subst (λ (z : List Batch). get_elem? z m ≡ some e) runs at)
    where
      only : (m : ℕ) → get_elem? (batch ∷ []) m ≡ some e → line_of e ≡ all_buffers count
      only zero at = ap line_of (sym (some-injective batch e at)) ∙ (line_is items ∙ all)
      only (suc m) at = absurd (some-ne-none e (sym at))

  pub first_lines : PutAllOnce count w
  first_lines = record {
    puts = ap (λ (z : List Batch). map line_of z) runs ∙ ap (λ (z : List ℕ). z ∷ []) (line_is items ∙ all);
    takes = ap (λ (z : List Batch). map line_of z) (d.takes_are ∙ ap (λ (z : View). z.own.takes) new);
  }

  pub first_whole : IsWhole w.member.share
  first_whole = d.share ∙ ap (λ (z : View). z.member.share) new

-- the least power of two that is no less than the number of buffers is a number of places
pub power_fits : (count room k : ℕ) → count ≤ 16777216 → room ≡ 2 ^ k → room / 2 < max 1 count → room ≤ 16777216
power_fits count room k few is half = dite (dec_lt 24 k)
    (λ high. absurd (let p : 2 ^ 25 ≤ 2 ^ k = pow_mono (let h : 25 ≤ k = omega arith in h) in let m : max 1 count ≤ 16777216 = omega arith in omega arith))
    (λ low. (let p : 2 ^ k ≤ 2 ^ 24 = pow_mono (let h : k ≤ 24 = omega arith in h) in omega arith))

-- the power has less than twice the number of buffers
pub at_most_twice : (count power room : ℕ) → 0 < count → room ≡ power → power / 2 < max 1 count → room < 2 * count
at_most_twice count power room positive is half = let m : max 1 count ≡ count = omega arith in omega arith

-- THE FIRST PUT, by ends that are honest for all that is known

module _ (shape : Shape) (v w : View) (new : v ≡ newcomer shape) (x : ∥ IsValidView of_batches v ∥₁) (y : ∥ IsValidView of_batches w ∥₁) (head_says : HeadSays)
    (room count : ℕ) (fits : count ≤ room) (few : count ≤ 16777216) where
  pub never_refused : (r : PutRefusal) → 0 < count → RefusedPut room v count r w → ⊥
  never_refused r some_item h = ∥∥₁_elim x (λ (a b : ⊥). absurd a) (λ (p : IsValidView of_batches v). ∥∥₁_elim y (λ (a b : ⊥). absurd a) (λ (q : IsValidView of_batches w).
      not_refused shape v w new p q head_says room count fits (omega arith) r some_item h))

  pub put_at_first : (start : ℕ) (items : List ℕ) → length items ≡ count → IsPut room v start items w → start ≡ 0
  put_at_first start items long h = ∥∥₁_elim x (ℕ_set _ _) (λ (p : IsValidView of_batches v). ∥∥₁_elim y (ℕ_set _ _) (λ (q : IsValidView of_batches w).
      (put_first shape v w new p q head_says room count fits (omega arith) start items long h).0))

  pub put_stocked : (start : ℕ) → IsPut room v start (all_buffers count) w → IsStocked count w
  put_stocked start h = ∥∥₁_elim x squash₁ (λ (p : IsValidView of_batches v). ∥∥₁_elim y squash₁ (λ (q : IsValidView of_batches w).
      ∣ ([], (put_first shape v w new p q head_says room count fits (omega arith) start (all_buffers count) (length-range_with_len 0 count) h).1) ∣₁))

  -- what an end is that has put all buffers, and done nothing else
  pub record Filled : Type 0 where
    pub fair : IsFair w
    pub none : (x : ℕ) → held w x ≡ 0
    pub lists : ListsFirst count w
    pub whole : IsWhole w.member.share
    pub stocked : IsStocked count w
    pub lines : PutAllOnce count w

  pub filled : (start : ℕ) → IsPut room v start (all_buffers count) w → Filled
  filled start h =
      let at_first = put_at_first start (all_buffers count) (length-range_with_len 0 count) h in
      let d = (is_put room start (all_buffers count) v w h).did in record {
        fair = first_fair count shape v w new start at_first (all_buffers count) refl d;
        none = first_held count shape v w new start at_first (all_buffers count) refl d;
        lists = first_lists count shape v w new start at_first (all_buffers count) refl d;
        whole = first_whole count shape v w new start at_first (all_buffers count) refl d;
        stocked = put_stocked start h;
        lines = first_lines count shape v w new start at_first (all_buffers count) refl d;
      }
