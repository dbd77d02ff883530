-- The signals of two lists of masks, in one.
use Rattle.stations.proofs.Common.{◌≡◌, inl, inr, ℕ, ◌+◌, ◌<◌, ◌≤◌, ◌||◌, true, false, List, get_or, set, length, sym, ap, ◌∙◌, arith, ◌≢◌, ◌⊎◌, eqb, is_in, HaveBoth, get_or-set_same, get_or-set_other, length-set}
use Rattle.std.proofs.lemmas.Bool.Decides.{eqb_tells}
use Rattle.std.specs.Int.Bits.{bit_or}
use Rattle.turn_dispatch.proofs.Delivered.{in_or}

-- the first k masks have the signals of both lists, and the other masks are those of the first list
pub record BothUpTo (k : ℕ) (a b all : List ℕ) : Type 0 where
  pub long : length all ≡ 64
  pub below : (e s : ℕ) → e < k → is_in (get_or all e 0) s ≡ (is_in (get_or a e 0) s || is_in (get_or b e 0) s)
  pub above : (e : ℕ) → k ≤ e → get_or all e 0 ≡ get_or a e 0

pub both_next : (k : ℕ) (a b all : List ℕ) → k < 64 → BothUpTo k a b all → BothUpTo (k + 1) a b (set all k (bit_or (get_or all k 0) (get_or b k 0)))
both_next k a b all low h = record {
  long = length-set all k _ ∙ h.long;
  below = λ e s under. below e s under (eqb_tells k e);
  above = λ e past. get_or-set_other all k e (bit_or (get_or all k 0) (get_or b k 0)) 0 (λ is. omega arith) ∙ h.above e (omega arith);
}
  where
    mask : ℕ
    mask = bit_or (get_or all k 0) (get_or b k 0)

    below : (e s : ℕ) → e < k + 1 → ((eqb k e ≡ true) × (k ≡ e)) ⊎ ((eqb k e ≡ false) × (k ≢ e))
        → is_in (get_or (set all k (bit_or (get_or all k 0) (get_or b k 0))) e 0) s ≡ (is_in (get_or a e 0) s || is_in (get_or b e 0) s)
    below e s under (inl same) = ap (λ i. is_in (get_or (set all k (bit_or (get_or all k 0) (get_or b k 0))) i 0) s) (sym same.1)
        ∙ (ap (λ n. is_in n s) (get_or-set_same all k (bit_or (get_or all k 0) (get_or b k 0)) 0 (let l = h.long in omega arith))
        ∙ (in_or (get_or all k 0) (get_or b k 0) s
        ∙ (ap (λ n. is_in n s || is_in (get_or b k 0) s) (h.above k (omega arith))
        ∙ ap (λ i. is_in (get_or a i 0) s || is_in (get_or b i 0) s) same.1)))
    below e s under (inr other) = ap (λ n. is_in n s) (get_or-set_other all k e (bit_or (get_or all k 0) (get_or b k 0)) 0 (λ is. other.1 (sym is))) ∙ h.below e s (let o = other.1 in omega arith)

pub both_end : (k : ℕ) (a b all : List ℕ) → 64 ≤ k → BothUpTo k a b all → HaveBoth a b all
both_end k a b all past h e s low few = h.below e s (omega arith)
