-- Shares that are given away, one part after the other.
use Rattle.boot_objects.proofs.Common.{◌≡◌, ℕ, ◌+◌, ◌≤◌, List, refl, ◌∙◌, arith, given, Gave, CanGive, ◌/◌, min-le_right}

-- what a split gives is a part at most
pub given_few : (share : ℕ) → given share ≤ 2097152
given_few share = min-le_right (share / 2) 2097152

pub gave_none : (splits : ℕ) (part : ℕ → ℕ) (shares : List ℕ) → ((q : ℕ) → part q ≡ 0) → Gave splits part shares shares
gave_none splits part shares none = record {
  long = refl;
  rest = λ q. let e = none q in omega (arith, e);
  few = λ q. let e = none q in omega (arith, e);
}

pub gave_both : (a b n : ℕ) (p r part : ℕ → ℕ) (old mid new : List ℕ) → a + b ≤ n → ((q : ℕ) → part q ≡ p q + r q) → Gave a p old mid → Gave b r mid new → Gave n part old new
gave_both a b n p r part old mid new l same h h' = record {
  long = h'.long ∙ h.long;
  rest = λ q. let e = same q in let x = h.rest q in let y = h'.rest q in omega (arith, e, x, y);
  few = λ q. let e = same q in let x = h.few q in let y = h'.few q in omega (arith, e, x, y, l);
}

pub can_then : (a b n : ℕ) (p : ℕ → ℕ) (old new : List ℕ) → a + b ≤ n → CanGive n old → Gave a p old new → CanGive b new
can_then a b n p old new l can h = λ q below. let long = h.long in let x = can q (omega (arith, long, below)) in let y = h.rest q in let z = h.few q in omega (arith, x, y, z, l)

pub can_fewer : (a n : ℕ) (old : List ℕ) → a ≤ n → CanGive n old → CanGive a old
can_fewer a n old l can = λ q below. let x = can q below in omega (arith, x, l)

pub gave_more : (a n : ℕ) {p : ℕ → ℕ} {old new : List ℕ} → a ≤ n → Gave a p old new → Gave n p old new
gave_more a n l h = record { long = h.long; rest = h.rest; few = λ q. let x = h.few q in omega (arith, x, l) }
