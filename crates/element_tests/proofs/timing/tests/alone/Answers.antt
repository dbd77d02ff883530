use Rattle.std.proofs.Common.{◌≡◌, [], ap, ◌∙◌, arith}
use Rattle.meters.specs.Own.{SeatView, Own}
use Rattle.meters.specs.Views.{times}
use Rattle.element_tests.proofs.timing.tests.alone.Goals as goal

pub returns-clause-alarms : goal.returns-clause-alarms
returns-clause-alarms c = λ a. let once = c.in-Ok.ensures.closed.all.once a in let set = λ (o : Own). o.set in
    let none : c.due-fired.new.seat.seat.me.0.own.set ≡ [] = ap set c.due-fired.ensures.owns ∙ (ap set c.tick-2.ensures.owns ∙ (ap set c.tick.ensures.owns ∙ ap (λ (v : SeatView). v.own.set) c.in_ok-meters.ensures.2)) in
    let few = ap (times a) none in omega arith
