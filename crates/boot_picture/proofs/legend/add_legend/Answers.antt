use Rattle.boot_picture.proofs.Common.{◌-◌, arith, inr, on_ok_weaker, DrawsBelow}
use Rattle.boot_picture.proofs.Clears.{below_more, below_then}
use Rattle.boot_picture.proofs.legend.add_legend.Goals as goal

pub returns : goal.returns
returns c =
    let side = c.args.frame.now.legend - 8 in
    let old = c.args.canvas.now in
    let first : DrawsBelow side old c.bar.new.self = below_more side old old c.bar.new.self _ (λ top bottom within all. all) c.in_ok-bar.ensures (λ top bottom within. inr (omega arith)) in
    let second : DrawsBelow side old c.add_line.new.canvas = below_then side _ old c.bar.new.self c.add_line.new.canvas (omega arith) first c.in_ok-add_line.ensures in
    let third : DrawsBelow side old c.add_line-2.new.canvas = below_then side _ old c.add_line.new.canvas c.add_line-2.new.canvas (omega arith) second c.in_ok-add_line-2.ensures in
    on_ok_weaker c.add_line-3.result (λ last. below_then side _ old c.add_line-2.new.canvas c.add_line-3.new.canvas (omega arith) third last) c.add_line-3.ensures
