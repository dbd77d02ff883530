use Rattle.processor.proofs.Common.{rules, refl, raised_goes}
use Rattle.meters.specs.Handles as seats
use Rattle.processor.proofs.Keeping.{rest_stays}
use Rattle.processor.proofs.Rising.{fallen}
use Rattle.processor.proofs.Ticking.{tended_remains}
use Rattle.processor.proofs.turn.tend.Goals as goal

pub returns-clause-station : goal.returns-clause-station
returns-clause-station c =
    let e = c.tend_alarms-advanced.ensures in
    let still = tended_remains c.tend_alarms-advanced.result c.tend_alarms-advanced.new.fired.items (seats.view_of c.args.parts.now.meters) (seats.view_of c.tend_alarms-advanced.new.seat) e.owns in
    rest_stays c.args.shared.now c.args.p c.args.parts.now _ c.requires.station (record { queues = refl; chains = refl; heard = refl }) e.handle.0 e.only.keeps
    (fallen c.args.parts.now.hand c.tend_alarms-advanced.new.hand (raised_goes _ _ _ _ c.args.parts.now.hand.fresh e.raised).0.later) e.handle.1 still.share still.parted

pub returns-clause-tended : goal.returns-clause-tended
returns-clause-tended c =
    let e = c.tend_alarms-advanced.ensures in
    (search rules, e.fired, e.owns, e.raised, record { queues = refl; chains = refl; heard = refl }, refl)
