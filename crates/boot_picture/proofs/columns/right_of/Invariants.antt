use Rattle.boot_picture.proofs.Common.{◌≤◌, take, All}
use Rattle.boot_picture.proofs.columns.right_of.Given as goal

-- no block so far ends after this side
abbrev pub invariant-loop-placed : goal.invariant-loop-placed
invariant-loop-placed l = All (λ placed. placed.bounds.right ≤ l.right) (take l.placed-index l.all)
