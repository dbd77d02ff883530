use Rattle.boot_picture.specs.Clear.{DrawsGround}
use Rattle.boot_picture.proofs.Clears.{then_ground}
use Rattle.boot_picture.proofs.picture.add_ground.Goals as goal

pub returns-then-boot : goal.returns-then-boot
returns-then-boot c =
    then_ground c.args.frame.now.width c.args.frame.now.height c.add_times.result c.args.canvas.now c.add_rules-2.new.canvas c.add_times.new.canvas
    (λ all. c.in_ok-add_rules-2.ensures (c.in_ok-add_rules.ensures (c.in_ok-add_head.ensures all))) c.add_times.ensures

pub returns : goal.returns
returns c = λ all. c.in_ok-add_rules-2.ensures (c.in_ok-add_rules.ensures (c.in_ok-add_head.ensures all))
