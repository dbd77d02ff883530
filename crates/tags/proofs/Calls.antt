-- What a taking, a put and a refusal leave of a holder.
use Rattle.tags.proofs.Common.{◌≡◌, ℕ, ◌<◌, ◌≤◌, ◌%◌, List, [], ◌∷◌, ◌++◌, refl, ap, subst, arith, IfOk, MatchResult, Result, Ok, Err, times_self, Positions, ExtendsTrace, Reaches, Step, AllRaised, head_of, ClaimRefusal, Refused, ArePut, MayPut, WereFirst, head_word, PutLine, SameLines, TookLine, View, of_queues, taking, IsPut, Does, put_own, refused_own, refused_take_own, took_own, count_in, held, GaveTag, HoldsSame, IsHolding, TookTag, Lends}
use Rattle.claim_queue.specs.declared.take.TakeRefusal.{TakeRefusal}
use Rattle.claim_queue.specs.Takings.{IsNone, IsOne, RefusedTake, TookItems}
use Rattle.tags.proofs.Holding.{Rises, begun_since, gave_held, gave_holding, is_tag, may_give, same_held, same_holding, took_held, took_holding}

-- what the queue's laws say of the steps between two views of an end
abbrev pub Since : View → View → Type 0
Since v w = (entries : List (Step Positions)) → ExtendsTrace v entries w → ∥ Reaches of_queues v.seen w.seen ∥₁

-- no head that a call has found is below one that the end had seen
abbrev pub HeadsRise : View → View → Type 0
HeadsRise v w = (before after : List (Step Positions)) (e : Step Positions) → ExtendsTrace v (before ++ e ∷ after) w → e.word ≡ head_word
    → head_of v.seen.object ≤ e.found % 4294967296

-- it did nothing but look
module _ (v w : View) (d : Does v v.own w) where
  pub looked_held : HoldsSame v w
  looked_held = same_held v w d.adds.first d.did

  pub looked_holding : Since v w → Rises → IsHolding v → IsHolding w
  looked_holding since rises h = same_holding v w d.adds.first d.did (begun_since v w d.adds.first (since d.steps d.adds) rises h.begun) h

-- TAKES

module _ (n : ℕ) (v w : View) where
  abbrev pub TakeTrace : Result ℕ TakeRefusal → Type 0
  TakeTrace r = MatchResult r (λ x. TookItems n v (x ∷ []) w) (λ e. RefusedTake IsNone IsOne n v e w)

  abbrev pub TakeEffect : Result ℕ TakeRefusal → Type 0
  TakeEffect r = MatchResult r (λ x. TookLine (x ∷ []) v w) (λ e. SameLines v w)

  abbrev pub TakePut : Result ℕ TakeRefusal → Type 0
  TakePut r = IfOk r (λ x. ArePut Lends w (x ∷ []))

  module _ (h : IsHolding v) where
    took_low : (x : ℕ) → TookItems n v (x ∷ []) w → ArePut Lends w (x ∷ []) → x < count_in v
    took_low x t p = let d = took_own n v w (x ∷ []) t in let low = is_tag w x p in let f = ap (λ (z : Positions). z.first) d.adds.first in omega arith

    pub take_holding : (r : Result ℕ TakeRefusal) → TakeTrace r → TakePut r → Since v w → Rises → IsHolding w
    take_holding (Ok x) t p since rises = let d = took_own n v w (x ∷ []) t in
        took_holding v w d.adds.first x (taking t.2.object 1) d.did t.5 (begun_since v w d.adds.first (since d.steps d.adds) rises h.begun) (took_low x t p) h
    take_holding (Err e) t p since rises = looked_holding v w (refused_take_own IsNone IsOne n v w e t) since rises h

    pub take_effect : (r : Result ℕ TakeRefusal) → TakeEffect r → TakeTrace r → MatchResult r (λ x. TookTag x v w) (λ e. HoldsSame v w)
    take_effect (Ok x) e t = let d = took_own n v w (x ∷ []) t in record { line = e; more = took_held v w d.adds.first x (taking t.2.object 1) d.did t.5 h }
    take_effect (Err x) e t = looked_held v w (refused_take_own IsNone IsOne n v w x t)

    pub take_result : (count : ℕ) → count_in v ≡ count → (r : Result ℕ TakeRefusal) → TakeTrace r → TakePut r → IfOk r (λ x. WereFirst v (x ∷ []) w) → IfOk r (λ x. (x < count) × WereFirst v (x ∷ []) w)
    take_result count is (Ok x) t p f = let low = took_low x t p in (omega arith, f)
    take_result count is (Err e) t p f = tt

    pub take_holds : (r : Result ℕ TakeRefusal) → TakeTrace r → IfOk r (λ x. 0 < held w x)
    take_holds (Ok x) t = let d = took_own n v w (x ∷ []) t in let m = took_held v w d.adds.first x (taking t.2.object 1) d.did t.5 h x in let s = times_self x in omega arith
    take_holds (Err e) t = tt

  pub take_first : (r : Result ℕ TakeRefusal) → TakeTrace r → w.first ≡ v.first
  take_first (Ok x) t = (took_own n v w (x ∷ []) t).adds.first
  take_first (Err e) t = (refused_take_own IsNone IsOne n v w e t).adds.first

-- PUTS

pub may_put : (v : View) (tag : ℕ) → IsHolding v → 0 < held v tag → MayPut Lends v (tag ∷ [])
may_put v tag h has start from alone = may_give v tag start h has (let b = h.begun in omega arith)

module _ (n : ℕ) (v w : View) (tag : ℕ) (rise : HeadsRise v w) (h : IsHolding v) (has : 0 < held v tag) where
  abbrev pub PutTrace : Result ℕ ClaimRefusal → Type 0
  PutTrace r = MatchResult r (λ start. IsPut n v start (tag ∷ []) w) (λ e. Refused n v 1 e w)

  abbrev pub PutEffect : Result ℕ ClaimRefusal → Type 0
  PutEffect r = MatchResult r (λ start. PutLine (tag ∷ []) v w) (λ e. SameLines v w)

  -- a line that is put after all tags were begins past the first position
  past : (start : ℕ) → IsPut n v start (tag ∷ []) w → count_in v < start
  past start (after, (raises, are, (tail, m, l, o, fits, there, made))) = let a = rise [] _ _ made.adds refl in let b = h.begun in let c : start % 4294967296 ≤ start = omega arith in omega arith

  pub give_holding : (r : Result ℕ ClaimRefusal) → PutTrace r → Since v w → Rises → (AllRaised v.own.runs → AllRaised w.own.runs) → IsHolding w
  give_holding (Ok start) t since rises raised = let d = put_own n v w start (tag ∷ []) t in
      gave_holding v w d.adds.first tag start d.did (past start t) h has (begun_since v w d.adds.first (since d.steps d.adds) rises h.begun) (raised h.raised)
  give_holding (Err e) t since rises raised = looked_holding v w (refused_own n 1 v w e t) since rises h

  pub give_effect : (r : Result ℕ ClaimRefusal) → PutEffect r → PutTrace r → MatchResult r (λ start. GaveTag tag v w) (λ e. HoldsSame v w)
  give_effect (Ok start) e t = let d = put_own n v w start (tag ∷ []) t in record { line = e; less = gave_held v w d.adds.first tag start d.did (past start t) h has }
  give_effect (Err x) e t = looked_held v w (refused_own n 1 v w x t)

  pub give_ok : (r : Result ℕ ClaimRefusal) (start : ℕ) → r ≡ Ok start → PutEffect r → PutTrace r → GaveTag tag v w
  give_ok r start is e t = subst (λ z. MatchResult z (λ s. GaveTag tag v w) (λ x. HoldsSame v w)) is (give_effect r e t)

  pub give_first : (r : Result ℕ ClaimRefusal) → PutTrace r → w.first ≡ v.first
  give_first (Ok start) t = (put_own n v w start (tag ∷ []) t).adds.first
  give_first (Err e) t = (refused_own n 1 v w e t).adds.first
