use Rattle.quajects.proofs.Common.{view_of, lines_put}
use Rattle.quajects.proofs.Counts.{counted_both}
use Rattle.quajects.proofs.terminal.CookedTty.put.Goals as goal

pub returns : goal.returns
returns c = let tty = c.args.self.now in counted_both _ _ (lines_put (view_of tty.line.end)) (lines_put (view_of tty.screen.end)) tty.line.number tty.screen.number
