use Rattle.quaject_core.proofs.Common.{List, map, Ok, refl, sym, ap, ◌∙◌, queue, Hold, elements}
use Rattle.quaject_core.proofs.Stored.Lifts.{changes_err}
use Rattle.quaject_core.proofs.Stored.Rings.{claimed_whole, claimed_not_held, claimed_why}
use Rattle.quaject_core.proofs.elements.StoredElements.claim.Goals as goal

pub returns-in_default : goal.returns-in_default
returns-in_default c =
    (refl, claimed_not_held c.args.ring c.args.call c.args.items.now (elements c.args.self.now) (sym c.is_strange.ensures ∙ c.if-is_strange.false) (sym c.in_default.ensures) c.in_ok-check_claim.ensures)

pub returns-in_err-claim : goal.returns-in_err-claim
returns-in_err-claim c =
    changes_err c.from_residual-in_err-claim.result c.in_err-claim.field-0.0 _ _ _ c.from_residual-in_err-claim.ensures.1
    (ap (λ rings. record (elements c.args.self.now) { rings = rings }) c.in_err-claim.ensures.what.0)
    (claimed_why c.args.ring c.args.call c.in-Some.index c.args.items.now (elements c.args.self.now) c.in_err-claim.field-0.0 (sym c.is_strange.ensures ∙ c.if-is_strange.false) (sym c.in-Some.ensures) c.in_err-claim.ensures.what.1)

pub returns : goal.returns
returns c =
    claimed_whole c.args.ring c.args.call c.in-Some.index c.args.items.now (elements c.args.self.now) _ (sym c.is_strange.ensures ∙ c.if-is_strange.false) (sym c.in-Some.ensures) c.in_ok-claim.ensures.what
    ∙ ap (λ (held : List Hold). Ok (record (elements c.args.self.now) { rings = map queue c.claim.new.rings.items; held = held })) (sym c.remove.ensures)
