use Rattle.boot_picture.proofs.Common.{List, refl, subst, Entry, AreBlocksOf}
use Rattle.boot_picture.proofs.Orders.{tracks_more}
use Rattle.boot_picture.proofs.order.tracks_of.Goals as goal

pub loop-log-preserved : goal.loop-log-preserved
loop-log-preserved c =
    let blocks = subst (λ (es : List Entry). AreBlocksOf es c.in_ok-blocks.blocks.items) c.entries.ensures c.in_ok-blocks.ensures in
    tracks_more c.args.logs.now c.loop-log.log-index c.log-item.result c.loop-log.tracks.items c.push.new.self.items (record { log = c.log-item.result; blocks = c.in_ok-blocks.blocks }) c.loop-log-test.true c.log-item.is c.loop-log.invariant (record { same = refl; blocks = blocks }) c.in_ok-push.ensures.items
