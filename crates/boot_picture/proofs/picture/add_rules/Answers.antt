use Rattle.std.proofs.Common.{inl, inr, refl}
use Rattle.boot_picture.proofs.Clears.{ground_more}
use Rattle.boot_picture.proofs.picture.add_rules.Goals as goal

pub loop-number-preserved : goal.loop-number-preserved
loop-number-preserved c = ground_more c.args.frame.now.width c.args.frame.now.height c.args.canvas.now c.loop-number.canvas c.bar.new.self _ c.loop-number.invariant c.in_ok-bar.ensures (inl (inr refl))
