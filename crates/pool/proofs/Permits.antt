-- What the protocol of a pool's queue allows a holder to put, and what it says of the buffers that a holder acquired.
use Rattle.pool.proofs.Common.{◌≡◌, ℕ, zero, suc, ◌<◌, ◌≤◌, Bool, true, false, List, [], ◌∷◌, ◌++◌, ◌∙◌, take, sym, ap, subst, arith, ⊎_elim, eq-eqb, IfOk, Result, Ok, Err, cond, not, dite, some, some-injective, some-ne-none, dec_lt, get_elem?, batch_given, batch_items, given_in, given_joined, given_one, placed, times_lines, at_map_back, at_push, times_at, TakeRefusal, Shape, View, newcomer, count_in, AreBuffers, all_buffers, times, Holds, IsFair, IsStocked, ListsFirst, held, Lends}
use Rattle.table_theory.specs.Protocols.{Placed, placed_lines}
use Rattle.table_theory.specs.Times.{is_later}
use Rattle.batch_queue.specs.Client.{EachEndKeeps, MayPut}
use Rattle.batch_queue.specs.Moments.{claimed}
use Rattle.pool.proofs.Acquiring.{Effect, Trace, acquire_holds}
use Rattle.pool.proofs.Holding.{stocked_long}
use Rattle.pool.proofs.Owners.{each_once, times_released}

-- the first batch
one_line : (start count : ℕ) (items : List ℕ) → items ≡ all_buffers count → (m : ℕ) (line : Placed) → get_elem? ((start, items) ∷ []) m ≡ some line → (n : ℕ) × (line.1 ≡ all_buffers n)
one_line start count items all zero line at = (count, ap (λ (z : Placed). z.1) (sym (some-injective (start, items) line at)) ∙ all)
one_line start count items all (suc m) line at = absurd (some-ne-none line (sym at))

pub may_stock : (shape : Shape) (count : ℕ) (v : View) (items : List ℕ) → v ≡ newcomer shape → items ≡ all_buffers count → MayPut Lends v items
may_stock shape count v items new all start from alone =
    let first : start ≡ 0 = alone (ap (λ (z : View). z.member.share) new) ∙ ap (λ (z : View). claimed z.seen.object) new in
    let none : is_later 0 (start, items) ≡ false = ap not (eq-eqb start 0 first) in
    subst (λ (z : View). Lends 0 (placed_lines z.own.runs ++ (start, items) ∷ []) (placed_lines z.own.takes)) (sym new) record {
      stock = λ m line at is. one_line start count items all m line at;
      fair = λ x. let a = given_one 0 x (start, items) in let b : given_in 0 x (start, items) ≡ 0 = ap (λ (z : Bool). cond z (times x items) 0) none in omega arith;
    }

-- a later batch
no_more : (b : Bool) (n : ℕ) → cond b n 0 ≤ n
no_more true n = omega arith
no_more false n = omega arith

pub may_put : (count : ℕ) (v : View) (buffers : List ℕ) → 0 < count → IsStocked count v → ListsFirst count v → IsFair v → Holds v buffers → MayPut Lends v buffers
may_put count v buffers some_buffer stocked lists fair holds start from alone =
    let past : 0 < start = (let a = stocked_long count v stocked in omega arith) in record {
      stock = λ m line at is. ⊎_elim
          (λ old. let e = at_map_back placed v.own.runs m line old in (count, ap (λ (z : Placed). z.1) (sym e.2) ∙ lists m e.0 e.1 (ap (λ (z : Placed). z.0) e.2 ∙ is)))
          (λ new. absurd (let s = ap (λ (z : Placed). z.0) new.1 in omega arith))
          (at_push (placed_lines v.own.runs) (start, buffers) line m at);
      fair = λ x. let a = given_joined 0 x (placed_lines v.own.runs) ((start, buffers) ∷ []) in let b = given_one 0 x (start, buffers) in let c : given_in 0 x (start, buffers) ≤ times x buffers = no_more (is_later 0 (start, buffers)) (times x buffers) in
          let d = batch_given 0 x v.own.runs in let e = times_released x v.own.runs in let f = batch_items x v.own.takes in let g = times_lines x v.own.takes in let h = holds x in let i = fair.0 x in omega arith;
    }

-- what an end holds are buffers of the pool
ours : (count : ℕ) (w : View) (buffers : List ℕ) → EachEndKeeps Lends w → IsStocked count w → Holds w buffers → AreBuffers count buffers
ours count w buffers k stocked holds i x at = dite (dec_lt x count) (λ below. below)
    (λ no. absurd (let o = each_once k.key k.state k.keeps k.shows in let n : count_in k.shows.queue ≡ count = o.known k.number w count k.here stocked in
    let none : held w x ≡ 0 = (o.other x (omega arith)).1 k.number w k.here in let h = holds x in let t = times_at x buffers i at in omega arith))

pub acquire_ours : (room count : ℕ) (v w : View) (old new : List ℕ) (r : Result ℕ TakeRefusal) → Effect room v w old new r → Trace room v w old new r → IsFair v → IfOk r (λ n. EachEndKeeps Lends w) → IsStocked count w
    → IfOk r (λ n. AreBuffers count (take n new))
acquire_ours room count v w old new (Ok n) e t f k stocked = ours count w (take n new) k stocked (acquire_holds room v w old new (Ok n) e t f)
acquire_ours room count v w old new (Err x) e t f k stocked = tt
