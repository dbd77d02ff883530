use Rattle.boot_script.proofs.Common.{◌+◌, ◌≤◌, length, lines_of, first_draft, plan_from}
use Rattle.boot_script.proofs.BootScripts.LinesDrawn.{IsDrawnSoFar}
use Rattle.boot_script.proofs.boot.plan_said.Given as goal

-- What is kept, and the lines that are left, are what the text says.
abbrev pub invariant-loop-rest : goal.invariant-loop-rest
invariant-loop-rest l = record {
  so_far : IsDrawnSoFar l.version l.line_number l.draft (lines_of l.rest) (plan_from l.version 2 (lines_of l.fn.text) first_draft);
  few : l.line_number + length l.rest ≤ 65538;
}

abbrev pub decreases-loop-rest : goal.decreases-loop-rest
decreases-loop-rest l = length l.rest
