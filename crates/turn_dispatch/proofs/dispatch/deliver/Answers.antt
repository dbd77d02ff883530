use Rattle.turn_dispatch.proofs.Common.{rules, set, bit_or, Shows, delivery, ◌≡◌, ◌<◌, ℕ, subst, get_or, length}
use Rattle.turn_dispatch.proofs.Delivered.{shows_more}
use Rattle.turn_dispatch.proofs.dispatch.deliver.Goals as goal

pub returns-in-Ok-clause-signals : goal.returns-in-Ok-clause-signals
returns-in-Ok-clause-signals c =
    let old = c.args.signals.now in
    let is : c.args.element ≡ c.from.result = search rules in
    let low : c.args.element < length old = search rules in
    subst (λ (k : ℕ). Shows (delivery c.args.element c.in-Ok.mask) old (set old k (bit_or (get_or old k 0) c.in-Ok.mask))) is (shows_more c.args.element c.in-Ok.mask old low)
