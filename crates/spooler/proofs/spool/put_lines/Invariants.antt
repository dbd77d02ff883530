use Rattle.spooler.proofs.Common.{take, view_of, IsEndOf, HasPut, lines_of}
use Rattle.spooler.proofs.spool.put_lines.Given as goal

abbrev pub invariant-loop-line : goal.invariant-loop-line
invariant-loop-line g l = IsEndOf l.queue l.end × HasPut (lines_of (take l.line-index l.lines)) (view_of l.initial.end) (view_of l.end)
