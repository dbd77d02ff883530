use Rattle.meters.proofs.Common.{◌≡◌, ℕ, [], set, replicate, sym, subst, ◌∙◌, arith, opening, Rule, newcomer}
use Rattle.meters.proofs.Opening.{new_words}
use Rattle.meters.proofs.ends.Meters.new.Goals as goal

pub of_words-requires : goal.of_words-requires
of_words-requires c = let valid : ℕ = c.from-2.result in let same : valid ≡ c.from.result = c.from-2.ensures ∙ sym c.from.ensures in
    subst (λ (z : ℕ). Rule (record { clock = valid }) (opening (set (set (replicate 26 0) 0 1) 9 z) [] (newcomer (record { clock = valid })))) same (new_words (record { clock = valid }) (omega (arith, c.ranges.clock, c.from-2.ensures)))
