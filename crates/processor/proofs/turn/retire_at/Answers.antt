use Rattle.processor.proofs.Common.{rules, ◌<◌, refl, view_of, retired_goes}
use Rattle.processor.proofs.Keeping.{rest_stays}
use Rattle.processor.proofs.Rising.{fallen}
use Rattle.processor.proofs.turn.retire_at.Goals as goal

pub returns-clause-station : goal.returns-clause-station
returns-clause-station g c =
    let h = c.args.parts.now.hand in
    let n = c.retire.new.hand in
    let low : c.args.element < 64 = search rules in
    rest_stays c.args.shared.now c.args.p c.args.parts.now _ c.requires.station (record { queues = refl; chains = refl; heard = refl }) c.retire.ensures.handle c.retire.ensures.frame
    (fallen h n (retired_goes _ c.args.element _ (view_of h) (view_of n) low h.fresh c.requires.held h.valid n.valid c.retire.ensures.sent).later) (refl, refl) refl refl
