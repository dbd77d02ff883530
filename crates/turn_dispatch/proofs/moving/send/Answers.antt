use Rattle.turn_dispatch.proofs.Common.{view_of, call_of, ring_of, ◌∙◌}
use Rattle.turn_dispatch.proofs.Sends.{lost_again}
use Rattle.turn_dispatch.proofs.moving.send.Goals as goal

pub loop-preserved : goal.loop-preserved
loop-preserved g c =
    let i = c.loop.invariant in
    let m = rw c.in-Err-Lost.field-0-is at c.in-Err-Lost.ensures.moved in
    let same = c.in-Err-Lost.ensures.handle in
    let r = lost_again (call_of c.args.hand.now) (call_of c.loop.hand) (ring_of c.args.target.now) c.args.element (view_of c.args.hand.now) (view_of c.loop.hand) (view_of c.try_send.new.hand) c.in-Err-Lost.field-0-0 i.0.1 i.1 i.2 m in
    ((same.0 ∙ i.0.0, same.1 ∙ i.0.1), r.0, r.1)
