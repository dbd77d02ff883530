-- The mask of one processor.
use Rattle.thread_table.proofs.Common.{◌≡◌, ℕ, ◌*◌, ◌^◌, ◌%◌, ◌<◌, true, false, Option, Some, None, eqb, sym, refl, ap, subst, ◌∙◌, true≢false, arith, ⊎_elim, eqb_tells, bit_at-pow_other, pow-lt, PROCESSORS, View, serves, running, is_in}
use Rattle.std.specs.Option.{is_some}

none_is : (x : Option ℕ) → is_some x ≡ false → x ≡ None
none_is None is = refl
none_is (Some n) is = absurd (true≢false is)

one_bit : (q : ℕ) → q < PROCESSORS → 1 * 2 ^ q % 256 ≡ 2 ^ q
one_bit q below = let bounded : 2 ^ q < 256 = pow-lt {i = q} {j = 8} below in omega arith

-- if the hand serves the processor and has nothing on it, this holds of each processor of the processor's mask
pub one_empty : (v : View) (processor q : ℕ) → q ≡ processor → q < PROCESSORS → serves v processor ≡ true → is_some (running v processor) ≡ false
    → (p : ℕ) → p < PROCESSORS → is_in (1 * 2 ^ q % 256) p ≡ true → (serves v p ≡ true) × (running v p ≡ None)
one_empty v processor q same known served empty p below is = ⊎_elim
    (λ here. subst (λ (n : ℕ). (serves v n ≡ true) × (running v n ≡ None)) (sym same ∙ sym here.1) (served, none_is (running v processor) empty))
    (λ differ. absurd (true≢false (sym is ∙ (ap (λ (mask : ℕ). is_in mask p) (one_bit q known) ∙ ap (λ (n : ℕ). eqb n 1) (bit_at-pow_other q p differ.1)))))
    (eqb_tells p q)
