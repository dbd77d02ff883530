use Rattle.meters.proofs.Common.{arith, ◌≡◌, ◌∙◌, ◌<◌, sym, subst, append-nil, Option, Some, None, Alarm, FoundIn}
use Rattle.meters.proofs.Following.{gave_none, gave_lost, gave_fired, IsNotDue}
use Rattle.meters.proofs.ends.Meters.fire.Goals as goal

pub returns-in_default-clause-gave : goal.returns-in_default-clause-gave
returns-in_default-clause-gave c = λ v stood is f. let none : stood ≡ None = sym (c.alarm.ensures.stands stood f.fits is) ∙ c.in_default.is in
    (None, gave_none v _ c.args.clock c.args.slot stood f (subst (IsNotDue c.args.clock) (sym none) tt), sym (append-nil c.args.fired.now.items))

pub returns-then-from-clock-clause-gave : goal.returns-then-from-clock-clause-gave
returns-then-from-clock-clause-gave c = λ v stood is f. let e = c.from.ensures in let late = c.if-from-clock.true in let due : c.args.clock < c.in-Some.alarm.due = omega arith in
    let some : stood ≡ Some c.in-Some.alarm = sym (c.alarm.ensures.stands stood f.fits is) ∙ c.in-Some.is in
    (None, gave_none v _ c.args.clock c.args.slot stood f (subst (IsNotDue c.args.clock) (sym some) due), sym (append-nil c.args.fired.now.items))

pub exchange_fired-requires-clause-due : goal.exchange_fired-requires-clause-due
exchange_fired-requires-clause-due c = let e = c.from.ensures in let due = c.if-from-clock.false in let up = c.requires.clock in omega arith

pub returns-then-not-exchange_fired-clause-gave : goal.returns-then-not-exchange_fired-clause-gave
returns-then-not-exchange_fired-clause-gave c = λ v stood is f. let e = c.from.ensures in let due = c.if-from-clock.false in
    let some : stood ≡ Some c.in-Some.alarm = sym (c.alarm.ensures.stands stood f.fits is) ∙ c.in-Some.is in
    let there = subst (λ (z : Option Alarm). FoundIn v c.args.slot z c.args.seat.now.seat.me.0) some f in
    (None, gave_lost v _ _ c.args.clock c.args.slot c.in-Some.alarm there (omega arith) (c.exchange_fired.ensures.miss c.if-not-exchange_fired.true), sym (append-nil c.args.fired.now.items))

pub returns-clause-gave : goal.returns-clause-gave
returns-clause-gave c = λ v stood is f. let e = c.from.ensures in let due = c.if-from-clock.false in
    let some : stood ≡ Some c.in-Some.alarm = sym (c.alarm.ensures.stands stood f.fits is) ∙ c.in-Some.is in
    let there = subst (λ (z : Option Alarm). FoundIn v c.args.slot z c.args.seat.now.seat.me.0) some f in
    (Some c.in-Some.alarm, gave_fired v _ _ c.args.clock c.args.slot c.in-Some.alarm there (omega arith) (c.exchange_fired.ensures.hit c.if-not-exchange_fired.false), c.push.ensures.items)

pub returns-then-not-exchange_fired-clause-valid : goal.returns-then-not-exchange_fired-clause-valid
returns-then-not-exchange_fired-clause-valid c = λ y. c.exchange_fired.ensures.seat.2

pub returns-clause-valid : goal.returns-clause-valid
returns-clause-valid c = λ y. c.exchange_fired.ensures.seat.2
