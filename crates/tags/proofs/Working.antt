-- What holders hold through several calls.
use Rattle.tags.proofs.Common.{◌≡◌, ℕ, ◌+◌, ◌<◌, List, ◌∙◌, ap, arith, times, View, held, HoldsSame, HoldsMore, HoldsLess, AreAll, all_tags}

pub same_on : (u v w : View) → HoldsSame u v → HoldsSame v w → HoldsSame u w
same_on u v w a b x = b x ∙ a x

pub same_holds : (v w : View) (tag : ℕ) → HoldsSame v w → 0 < held v tag → 0 < held w tag
same_holds v w tag same holds = let a = same tag in omega arith

pub less_on : (u v w : View) (tag : ℕ) → HoldsSame u v → HoldsLess tag v w → HoldsLess tag u w
less_on u v w tag a b x = b x ∙ a x

-- a tag that was taken was given back
pub more_less : (u v w : View) (tag : ℕ) → HoldsMore tag u v → HoldsLess tag v w → HoldsSame u w
more_less u v w tag a b x = let c = a x in let d = b x in omega arith

-- if the last holder holds nothing, all tags are left
pub all_left : (count n : ℕ) (left : List ℕ) (last : ℕ → ℕ) → count ≡ n → ((x : ℕ) → last x ≡ 0) → ((x : ℕ) → last x + times x left ≡ times x (all_tags count)) → AreAll n left
all_left count n left last is none all x = let a = all x in let b = none x in let c = ap (λ (z : ℕ). times x (all_tags z)) is in omega arith
