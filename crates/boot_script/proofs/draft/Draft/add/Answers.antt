use Rattle.boot_script.proofs.Common.{sym, subst, Ok, added, Added}
use Rattle.boot_script.proofs.draft.Draft.add.Goals as goal

pub returns-in-Types : goal.returns-in-Types
returns-in-Types c = λ d drawn.
    subst (λ line. Added c.add_typed.result c.add_typed.new.self (added c.args.version line d)) (sym c.in-Types.is) (c.add_typed.ensures c.args.version d drawn)

pub returns-in-Alarm : goal.returns-in-Alarm
returns-in-Alarm c = λ d drawn.
    subst (λ line. Added c.add_alarm.result c.add_alarm.new.self (added c.args.version line d)) (sym c.in-Alarm.is) (c.add_alarm.ensures c.args.version d drawn)

pub returns-in-More : goal.returns-in-More
returns-in-More c = λ d drawn.
    subst (λ line. Added (Ok tt) c.go_on.new.self (added c.args.version line d)) (sym c.in-More.is) (c.go_on.ensures c.args.version d drawn)
