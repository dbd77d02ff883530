use Rattle.boot_picture.proofs.Common.{inr, refl, DrawsGround}
use Rattle.boot_picture.proofs.Clears.{ground_more, then_ground}
use Rattle.boot_picture.proofs.picture.add_head.Goals as goal

pub returns : goal.returns
returns c =
    let w = c.args.frame.now.width in
    let h = c.args.frame.now.height in
    let old = c.args.canvas.now in
    let first : DrawsGround w h old c.bar.new.self = ground_more w h old old c.bar.new.self _ (λ all. all) c.in_ok-bar.ensures (inr refl) in
    let second : DrawsGround w h old c.text.new.self = ground_more w h old c.bar.new.self c.text.new.self _ first c.in_ok-text.ensures tt in
    let third : DrawsGround w h old c.text-2.new.self = ground_more w h old c.text.new.self c.text-2.new.self _ second c.in_ok-text-2.ensures tt in
    then_ground w h c.add_names.result old c.text-2.new.self c.add_names.new.canvas third c.add_names.ensures
