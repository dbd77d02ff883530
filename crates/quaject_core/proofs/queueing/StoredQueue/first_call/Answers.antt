use Rattle.quaject_core.proofs.Common.{◌∙◌, ◌<◌, ap, sym, arith, length, Some, queue, Span}
use Rattle.quaject_core.proofs.Stored.Layout.{left_stored}
use Rattle.quaject_core.proofs.Stored.Owners.{no_owner, point_owner}
use Rattle.quaject_core.proofs.queueing.StoredQueue.first_call.Goals as goal

pub returns-then-left-eq0 : goal.returns-then-left-eq0
returns-then-left-eq0 c = sym (no_owner (queue c.args.self.now) (sym c.left.ensures.left ∙ c.if-left-eq0.true))

pub returns : goal.returns
returns c =
    let some : c.args.self.now.taken < length c.args.self.now.places.items = omega (arith, c.if-left-eq0.false, c.left.ensures.left, left_stored c.args.self.now) in
    ap (λ (s : Span). Some s.call) c.index.ensures
    ∙ (point_owner c.args.self.now c.begun.result c.index.result.now some c.begun.ensures.known c.begun.ensures.parted).1

pub overflow_sub-begun : goal.overflow_sub-begun
overflow_sub-begun c =
    let some : c.args.self.now.taken < length c.args.self.now.places.items = omega (arith, c.if-left-eq0.false, c.left.ensures.left, left_stored c.args.self.now) in
    let d : Span = record { call = 0; start = 0; count = 0 } in
    (point_owner c.args.self.now c.begun.result d some c.begun.ensures.known c.begun.ensures.parted).0
