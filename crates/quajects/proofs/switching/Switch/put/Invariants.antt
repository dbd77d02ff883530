use Rattle.quajects.proofs.Common.{◌≡◌, ◌++◌, take, flat_map, view_of, lines_put, counted, puts_of}
use Rattle.quajects.proofs.switching.Switch.put.Given as goal

abbrev pub invariant-loop-way : goal.invariant-loop-way
invariant-loop-way l = l.total ≡ counted (lines_put (view_of l.self.other.end) ++ flat_map puts_of (take l.way-index l.self.ways))
