use Rattle.boot_report.proofs.Common.{arith, ◌<◌, List, length, subst, PlannedTty, few_ttys}
use Rattle.boot_report.proofs.ttys.lines_of_ttys.Goals as goal

pub lines_of-requires : goal.lines_of-requires
lines_of-requires c =
    let inside = subst (λ (z : List PlannedTty). c.loop-number.number < length z) c.as_slice-tty-items.ensures c.loop-number-test.true in
    record { low = omega (arith, inside, few_ttys c.plan.result.now) }
