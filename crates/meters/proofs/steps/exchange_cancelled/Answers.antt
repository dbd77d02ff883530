use Rattle.meters.proofs.Common.{sym, rules, ◌∙◌, eqb-false}
use Rattle.meters.proofs.Stepping.{cancels_slot}
use Rattle.meters.proofs.steps.exchange_cancelled.Goals as goal

pub compare_exchange-requires : goal.compare_exchange-requires
compare_exchange-requires c = (search rules, search rules, cancels_slot _ _ _ _ c.requires.seat.0.2 _ c.args.alarm _ (c.bits-word.ensures ∙ c.of.ensures.bits) c.requires.seat.1 c.of.ensures.range)

pub returns-clause-miss : goal.returns-clause-miss
returns-clause-miss c = λ miss. let ne = eqb-false _ _ miss in let t = c.compare_exchange.ensures.2 in (_, t.2 ne, λ e. ne (e ∙ sym (c.bits-word.ensures ∙ c.of.ensures.bits)))
