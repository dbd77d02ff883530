use Rattle.boot_report.proofs.Common.{◌≡◌, ◌%◌, ◌^◌, take, sum_by, left_in}
use Rattle.boot_report.proofs.movers.all_left.Given as goal

abbrev pub invariant-loop-came : goal.invariant-loop-came
invariant-loop-came l = l.left ≡ sum_by left_in (take l.came-index l.counts) % 2 ^ 64
