use Rattle.quaject_core.proofs.Common.{length, true, false, refl, sym, ap, subst, ◌∙◌, arith, IsOk, lt-ltb, le-ltb, queue}
use Rattle.quaject_core.proofs.Stored.Rings.{claim_tested, no_room, some_room}
use Rattle.quaject_core.proofs.rings.check_claim.Goals as goal

pub returns-then-is_empty : goal.returns-then-is_empty
returns-then-is_empty c =
    claim_tested c.args.ring c.args.call c.args.items.now c.args.rings.now.items c.index.result.now true _ _ _ (omega (arith, c.args.rings.now.ok)) c.index.ensures
    (sym c.is_empty.ensures ∙ c.if-is_empty.true) refl refl refl

pub returns-then-items-gt1 : goal.returns-then-items-gt1
returns-then-items-gt1 c =
    claim_tested c.args.ring c.args.call c.args.items.now c.args.rings.now.items c.index.result.now false true _ _ (omega (arith, c.args.rings.now.ok)) c.index.ensures
    (sym c.is_empty.ensures ∙ c.if-is_empty.false) (lt-ltb 1 (length c.args.items.now) c.if-items-gt1.true) refl refl

pub returns-then-status : goal.returns-then-status
returns-then-status c =
    claim_tested c.args.ring c.args.call c.args.items.now c.args.rings.now.items c.index.result.now false false true _ (omega (arith, c.args.rings.now.ok)) c.index.ensures
    (sym c.is_empty.ensures ∙ c.if-is_empty.false) (le-ltb 1 (length c.args.items.now) c.if-items-gt1.false) (sym (ap (λ s. s.shut) c.status-status.ensures) ∙ c.if-status.true) refl

pub returns-then-status-from : goal.returns-then-status-from
returns-then-status-from c =
    claim_tested c.args.ring c.args.call c.args.items.now c.args.rings.now.items c.index.result.now false false false true (omega (arith, c.args.rings.now.ok)) c.index.ensures
    (sym c.is_empty.ensures ∙ c.if-is_empty.false) (le-ltb 1 (length c.args.items.now) c.if-items-gt1.false) (sym (ap (λ s. s.shut) c.status-status.ensures) ∙ c.if-status.false)
    (no_room (queue c.index.result.now) c.status-status.result c.from.result c.args.items.now c.status-status.ensures c.from.ensures (sym c.is_empty.ensures ∙ c.if-is_empty.false) c.if-status-from.true)

pub returns : goal.returns
returns c =
    subst IsOk (sym (claim_tested c.args.ring c.args.call c.args.items.now c.args.rings.now.items c.index.result.now false false false false (omega (arith, c.args.rings.now.ok)) c.index.ensures
    (sym c.is_empty.ensures ∙ c.if-is_empty.false) (le-ltb 1 (length c.args.items.now) c.if-items-gt1.false) (sym (ap (λ s. s.shut) c.status-status.ensures) ∙ c.if-status.false)
    (some_room (queue c.index.result.now) c.status-status.result c.from.result c.args.items.now c.status-status.ensures c.from.ensures c.if-items-gt1.false c.if-status-from.false))) refl
