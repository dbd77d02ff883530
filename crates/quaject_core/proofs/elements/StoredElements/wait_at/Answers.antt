use Rattle.quaject_core.proofs.Common.{List, map, remove, Ok, refl, sym, ap, subst, ◌∙◌, arith, Queue, ◌>>=◌, IsWhy, queue, Hold, elements}
use Rattle.quaject_core.proofs.Stored.Elements.{known}
use Rattle.quaject_core.proofs.Stored.Lifts.{changes_err, why_then}
use Rattle.quaject_core.proofs.Stored.Rings.{stored_waits, stored_not_waiting, stored_moved}
use Rattle.quaject_core.proofs.elements.StoredElements.wait_at.Goals as goal

pub returns-in_default : goal.returns-in_default
returns-in_default c = (
  refl,
  stored_not_waiting c.args.self.now c.args.call c.args.wait c.args.element c.item_of-item.result c.args.ticket (known c.args.self.now c.args.element c.knows.result c.knows.ensures c.if-not-knows.false) (omega arith)
      c.item_of-item.ensures (sym c.find.ensures ∙ c.in_default.is),
)

pub returns-then-notifies-ticket : goal.returns-then-notifies-ticket
returns-then-notifies-ticket c = (
  refl,
  stored_moved c.args.self.now c.args.call c.args.wait c.args.element c.item_of-item.result c.args.ticket c.in-Some.index c.notifies.result
      (known c.args.self.now c.args.element c.knows.result c.knows.ensures c.if-not-knows.false) c.item_of-item.ensures c.notifies.ensures (sym c.in-Some.ensures) c.if-notifies-ticket.true,
)

pub returns-in_err-claim : goal.returns-in_err-claim
returns-in_err-claim c =
    let s = c.args.self.now in
    let whole = stored_waits s c.args.call c.args.wait c.args.element c.item_of-item.result c.of_wait.result c.args.ticket c.in-Some.index c.notifies.result
    (known s c.args.element c.knows.result c.knows.ensures c.if-not-knows.false) c.item_of-item.ensures c.of_wait.ensures c.notifies.ensures (sym c.in-Some.ensures) c.if-notifies-ticket.false in
    let e = c.in_err-claim.field-0.0 in
    changes_err c.from_residual.result e _ _ _ c.from_residual.ensures.1
    (ap (λ rings. record (elements s) { rings = rings }) c.in_err-claim.ensures.what.0)
    (subst (IsWhy e) (sym whole) (why_then e _ (λ (rings : List Queue). record (elements s) { rings = rings; held = remove s.held.holds.items c.in-Some.index }) c.in_err-claim.ensures.what.1))

pub returns : goal.returns
returns c =
    let s = c.args.self.now in
    let whole = stored_waits s c.args.call c.args.wait c.args.element c.item_of-item.result c.of_wait.result c.args.ticket c.in-Some.index c.notifies.result
    (known s c.args.element c.knows.result c.knows.ensures c.if-not-knows.false) c.item_of-item.ensures c.of_wait.ensures c.notifies.ensures (sym c.in-Some.ensures) c.if-notifies-ticket.false in
    whole ∙ (ap (λ said. said >>= λ rings. Ok (record (elements s) { rings = rings; held = remove s.held.holds.items c.in-Some.index })) c.in_ok-claim.ensures.what
    ∙ ap (λ (held : List Hold). Ok (record (elements s) { rings = map queue c.claim.new.rings.items; held = held })) (sym c.remove.ensures))
