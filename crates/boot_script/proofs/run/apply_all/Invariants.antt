use Rattle.boot_script.proofs.Common.{take, Reaches, state, alone}
use Rattle.boot_script.proofs.run.apply_all.Given as goal

-- The events so far lead from the first state to this one.
abbrev pub invariant-loop-line : goal.invariant-loop-line
invariant-loop-line l = Reaches (state l.fn.core) (alone (take l.line-index l.events)) (state l.core)
