-- What holders hold through several calls.
use Rattle.pool.proofs.Common.{◌≡◌, ℕ, suc, ◌+◌, List, subst, ◌∙◌, ap, arith, View, AreAll, all_buffers, times, Holds, HoldsSame, HoldsMore, HoldsLess}
use Rattle.pool.specs.Turns.{Turned, TurnsOf}

pub same_on : (u v w : View) → HoldsSame u v → HoldsSame v w → HoldsSame u w
same_on u v w a b x = b x ∙ a x

pub same_holds : (v w : View) (buffers : List ℕ) → HoldsSame v w → Holds v buffers → Holds w buffers
same_holds v w buffers same holds x = let a = same x in let b = holds x in omega arith

pub less_on : (u v w : View) (buffers : List ℕ) → HoldsSame u v → HoldsLess buffers v w → HoldsLess buffers u w
less_on u v w buffers a b x = b x ∙ a x

-- those that were acquired were given back
pub more_less : (u v w : View) (buffers : List ℕ) → HoldsMore buffers u v → HoldsLess buffers v w → HoldsSame u w
more_less u v w buffers a b x = let c = a x in let d = b x in omega arith

-- one turn more
pub turned_again : (room most turns : ℕ) (u v w : View) → TurnsOf room most turns u v → Turned room most v w
    → TurnsOf room most (turns + 1) u w
turned_again room most turns u v w before turn =
    let more : suc turns ≡ turns + 1 = omega arith in
    subst (λ (z : ℕ). TurnsOf room most z u w) more (v, before, turn)

-- TWO WORKERS

-- if the last holder holds nothing, all buffers are left
pub all_left : (count n : ℕ) (left : List ℕ) (last : ℕ → ℕ) → count ≡ n → ((x : ℕ) → last x ≡ 0) → ((x : ℕ) → last x + times x left ≡ times x (all_buffers count)) → AreAll n left
all_left count n left last is none all x = let a = all x in let b = none x in let c = ap (λ (z : ℕ). times x (all_buffers z)) is in omega arith
