use Rattle.boot_picture.proofs.Common.{◌-◌, List, arith, inr, subst, sym, Shape, DrawsBelow}
use Rattle.boot_picture.proofs.Clears.{below_more}
use Rattle.boot_picture.proofs.thread_lanes.add_arrows.Goals as goal
use Rattle.boot_picture.proofs.thread_lanes.add_arrows.Goals.{then-arrow+in_ok-up, else-arrow+in_ok-down}

pub loop-arrow-preserved : goal.loop-arrow-preserved
loop-arrow-preserved c =
    let side = c.args.frame.now.threads - 5 in
    let old = c.args.canvas.now in
    let said = c.ends_of-from.ensures.said in
    let heard = c.ends_of-from.ensures.heard in
    let lined : DrawsBelow side old c.line.new.self = below_more side old c.loop-arrow.canvas c.line.new.self _ c.loop-arrow.invariant c.in_ok-line.ensures (λ top bottom within. inr (omega arith)) in
    elim c.if-arrow.branch [
      | then-arrow+in_ok-up w ↦ subst (λ (shapes : List Shape). DrawsBelow side old shapes) (sym w.canvas-is) (below_more side old c.line.new.self w.up.new.self _ lined w.in_ok-up.ensures (λ top bottom within. let up = c.ends_of-from.ensures.up w.if-arrow.true in inr (omega arith)))
      | else-arrow+in_ok-down w ↦ subst (λ (shapes : List Shape). DrawsBelow side old shapes) (sym w.canvas-is) (below_more side old c.line.new.self w.down.new.self _ lined w.in_ok-down.ensures (λ top bottom within. inr (omega arith)))
    ]
