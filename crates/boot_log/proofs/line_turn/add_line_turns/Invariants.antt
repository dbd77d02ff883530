use Rattle.boot_log.proofs.Common.{◌≡◌, ◌++◌, drop, line_turns}
use Rattle.boot_log.proofs.line_turn.add_line_turns.Given as goal

-- with those of the turns that are left, the turns of all lines are appended
abbrev pub invariant-loop-turn : goal.invariant-loop-turn
invariant-loop-turn l =
    l.all.items ++ line_turns l.way l.processor l.turn l.began (drop l.turn l.entries)
    ≡ l.fn.all.items ++ line_turns l.way l.processor 0 l.from l.entries
