use Rattle.boot_picture.proofs.Common.{◌∙◌, arith, refl, take_all}
use Rattle.boot_picture.proofs.Placing.{blocks_more, left_more, pairs_more, wide_more}
use Rattle.boot_picture.proofs.columns.place_in_turns.Goals as goal

pub loop-ordered-preserved : goal.loop-ordered-preserved
loop-ordered-preserved c =
    let inv = c.loop-ordered.invariant in
    let pushed = c.in_ok-push.ensures.items in
    let order = c.args.order.now in
    let all = c.loop-ordered.all.items in
    let new = c.push.new.self.items in
    let few = c.requires.few in
    let test = c.loop-ordered-test.true in
    let near = inv.near in
    let width = c.width_of.ensures in
    let right = c.saturating_add-right.ensures in
    let left = c.saturating_add-left.ensures in
    record {
      blocks = blocks_more order c.loop-ordered.ordered-index _ all new _ test inv.blocks refl pushed;
      wide = wide_more all new _ inv.wide (omega arith) pushed;
      turns = pairs_more all new _ inv.turns inv.before pushed;
      before = left_more c.loop-ordered.left c.saturating_add-left.result all new _ (omega arith) inv.before (record { begins = omega arith; ends = omega arith }) pushed;
      near = omega arith;
    }

pub returns : goal.returns
returns c =
    let inv = c.loop-ordered.invariant in
    record { blocks = inv.blocks ∙ take_all c.loop-ordered.ordered-index c.args.order.now c.loop-ordered-test.false; wide = inv.wide; places = inv.turns }
