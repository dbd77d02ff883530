use Rattle.quaject_core.proofs.Common.{true, false, List, Some, Ok, set, refl, sym, ap, ◌∙◌, arith, hold, elements, Hold}
use Rattle.quaject_core.proofs.Stored.Elements.{known, stored_not_put, stored_put}
use Rattle.quaject_core.proofs.elements.StoredElements.put_on.Goals as goal

pub returns-in_default-clause-change : goal.returns-in_default-clause-change
returns-in_default-clause-change c = (
  refl,
  stored_not_put c.args.self.now c.args.call c.args.processor c.args.element c.item_of-number.result (known c.args.self.now c.args.element c.knows.result c.knows.ensures c.if-not-knows.false) (omega arith)
      c.item_of-number.ensures (sym c.find.ensures ∙ c.in_default.is),
)

pub returns-then-is_some-clause-change : goal.returns-then-is_some-clause-change
returns-then-is_some-clause-change c = (
  refl,
  stored_put c.args.self.now c.args.call c.args.processor c.args.element c.item_of-number.result c.from-seat.result c.in-Some.index c.index-self-seat.result true
      (known c.args.self.now c.args.element c.knows.result c.knows.ensures c.if-not-knows.false) c.item_of-number.ensures (c.from-seat.ensures ∙ c.number.ensures.value) (omega (arith, c.from-seat.ensures, c.number.ensures.within))
      (sym c.if-is_some.true ∙ c.is_some.ensures) (sym c.in-Some.ensures),
)

pub returns-clause-change : goal.returns-clause-change
returns-clause-change c =
    let s = c.args.self.now in
    stored_put s c.args.call c.args.processor c.args.element c.item_of-number.result c.from-seat.result c.in-Some.index c.index-self-seat.result false
    (known s c.args.element c.knows.result c.knows.ensures c.if-not-knows.false) c.item_of-number.ensures (c.from-seat.ensures ∙ c.number.ensures.value) (omega (arith, c.from-seat.ensures, c.number.ensures.within))
    (sym c.if-is_some.false ∙ c.is_some.ensures) (sym c.in-Some.ensures)
    ∙ ap (λ (held : List Hold). Ok (record (elements s) { processors = set s.processors c.from-seat.result (Some (hold c.args.call c.item_of-number.result)); held = held })) (sym c.remove.ensures)
