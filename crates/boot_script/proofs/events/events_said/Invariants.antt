use Rattle.boot_script.proofs.Common.{ℕ, ◌+◌, ◌≤◌, length, Event, ScriptFault, lines_of, events_from}
use Rattle.boot_script.proofs.Basics.Gathered.{IsGathered}
use Rattle.boot_script.proofs.events.events_said.Given as goal

-- The events so far, and those that are left, are those of the text.
abbrev pub invariant-loop-rest : goal.invariant-loop-rest
invariant-loop-rest l = record {
  gathered : IsGathered (ℕ × Event) ScriptFault l.kept l.events.items (events_from l.version l.line_number (lines_of l.rest)) (events_from l.version 2 (lines_of l.fn.text));
  few : l.line_number + length l.rest ≤ 65538;
}

abbrev pub decreases-loop-rest : goal.decreases-loop-rest
decreases-loop-rest l = length l.rest
