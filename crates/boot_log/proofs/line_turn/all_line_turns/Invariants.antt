use Rattle.boot_log.proofs.Common.{◌≡◌, ◌++◌, drop, kept_in, all_line_turns}
use Rattle.boot_log.proofs.line_turn.all_line_turns.Given as goal

-- with those of the processors that are left, the turns of all lines are in the list
abbrev pub invariant-loop-processor : goal.invariant-loop-processor
invariant-loop-processor l =
    l.all.items ++ all_line_turns l.way l.from l.processor (kept_in (drop l.processor l.logs))
    ≡ all_line_turns l.way l.from 0 (kept_in l.logs)
