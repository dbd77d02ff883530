use Rattle.std.proofs.Common.{◌≡◌, length, take, min}
use Rattle.quaject_core.specs.ShownCores.{state}
use Rattle.event_theory.specs.States.{first_state}
use Rattle.event_theory.specs.Schedules.{Reaches}
use Rattle.boot_script.specs.Replays.{alone}
use Rattle.draw.specs.Histories.{LastRowsShow}
use Rattle.draw.proofs.history.replay_rows.Given as goal

-- The events so far were all allowed, and the rows are the last of them.
abbrev pub invariant-loop-line : goal.invariant-loop-line
invariant-loop-line l = Reaches (first_state l.elements) (alone (take l.line-index l.events)) (state l.core) × LastRowsShow l.rows.items (take l.line-index l.events) (first_state l.elements) (state l.core) × (l.allowed ≡ l.line-index) × (length l.rows.items ≡ min 200 l.line-index)
