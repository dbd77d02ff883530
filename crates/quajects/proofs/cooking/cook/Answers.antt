use Rattle.std.proofs.Common.{rules}
use Rattle.quajects.proofs.Editing.{step_kill, step_erase, step_other}
use Rattle.quajects.proofs.cooking.cook.Goals as goal
use Rattle.quajects.proofs.cooking.cook.Goals.{then-byte-eq-KILL, else-byte-eq-KILL+then-is_eraser, else-byte-eq-KILL+else-is_eraser}

pub loop-byte-preserved : goal.loop-byte-preserved
loop-byte-preserved c = let line = c.args.line.now in let i = c.loop-byte.byte-index in let below = c.loop-byte-test.true in let k = c.loop-byte.invariant in
    elim c.if-byte-eq-KILL.branch [
      | then-byte-eq-KILL w ↦ (let s = step_kill line i below w.if-byte-eq-KILL.true in record { kept = cc; few = search rules })
      | else-byte-eq-KILL+then-is_eraser w ↦ (let s = step_erase line i w.is_eraser.result below w.if-byte-eq-KILL.false w.if-is_eraser.true w.is_eraser.ensures in
          record { kept = cc; few = search rules })
      | else-byte-eq-KILL+else-is_eraser w ↦ (let s = step_other line i w.is_eraser.result below w.if-byte-eq-KILL.false w.if-is_eraser.false w.is_eraser.ensures in
          record { kept = cc; few = search rules })
    ]
