use Rattle.meters.proofs.Common.{sym, subst, Option, Alarm, FoundIn}
use Rattle.meters.proofs.steps.load_alarm.Goals as goal

pub returns-clause-found : goal.returns-clause-found
returns-clause-found c = let f = c.load_slot.ensures.found in
    subst (λ (z : Option Alarm). FoundIn c.args.seat.now.me.0 c.args.slot z c.load_slot.new.seat.me.0) (sym (c.alarm.ensures.stands f.0 f.2.fits f.1)) f.2
