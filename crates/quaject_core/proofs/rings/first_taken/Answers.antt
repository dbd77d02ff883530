use Rattle.std.proofs.Common.{arith}
use Rattle.quaject_core.proofs.Stored.Rings.{takes_first, takes_none}
use Rattle.quaject_core.proofs.rings.first_taken.Goals as goal

pub returns-in_err-check_take : goal.returns-in_err-check_take
returns-in_err-check_take c =
    takes_none c.args.ring c.args.count c.args.rings.now.items c.index-stored.result.now c.in_err-check_take.field-0.0 c.from_residual.result
    (omega (arith, c.args.rings.now.ok)) c.index-stored.ensures c.in_err-check_take.ensures c.from_residual.ensures.1

pub returns : goal.returns
returns c =
    takes_first c.args.ring c.args.count c.args.rings.now.items c.index-stored.result.now _ c.first_left.result c.ok_or.result
    (omega (arith, c.args.rings.now.ok)) c.index-stored.ensures c.in_ok-check_take.ensures c.first_left.ensures c.ok_or.ensures.value
