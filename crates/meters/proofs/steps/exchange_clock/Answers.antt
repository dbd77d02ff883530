use Rattle.meters.proofs.Common.{rules, arith, ◌<◌, ℕ, dite, ℕ_discrete}
use Rattle.meters.proofs.Clocks.{clock_found}
use Rattle.meters.proofs.Stepping.{advances_clock}
use Rattle.meters.proofs.steps.exchange_clock.Goals as goal

pub compare_exchange-requires : goal.compare_exchange-requires
compare_exchange-requires c = (search rules, search rules, advances_clock _ _ _ _ c.requires.seat.2 _ c.requires.below)

pub returns-clause-miss : goal.returns-clause-miss
returns-clause-miss c = λ miss. let t = c.compare_exchange.ensures.2 in let s = t.2 miss in (s, (clock_found _ _ _ t.0.1 s).0)

pub returns-clause-bounded : goal.returns-clause-bounded
returns-clause-bounded c = let t = c.compare_exchange.ensures.2 in let below = c.requires.below in let found : ℕ = c.compare_exchange.result in let goes : found < 4294967296 = dite (ℕ_discrete found c.args.clock) (λ e. omega arith) (λ ne. (clock_found _ _ _ t.0.1 (t.2 ne)).1) in goes
