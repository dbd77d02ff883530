use Rattle.std.proofs.Common.{refl, sym, ◌∙◌, arith}
use Rattle.quaject_core.proofs.Stored.Elements.{stored_delivered, stored_not_delivered, known}
use Rattle.quaject_core.proofs.elements.StoredElements.deliver.Goals as goal

pub returns-then-not-holds-clause-change : goal.returns-then-not-holds-clause-change
returns-then-not-holds-clause-change c = (
  refl,
  stored_not_delivered c.args.self.now c.args.call c.args.element c.item_of.result c.item_of.ensures (known c.args.self.now c.args.element c.knows.result c.knows.ensures c.if-not-knows.false)
      (sym c.holds.ensures ∙ c.if-not-holds.true),
)

pub returns-clause-change : goal.returns-clause-change
returns-clause-change c =
    stored_delivered c.args.self.now c.args.call c.index_of.result c.args.element c.item_of.result c.index_mut.result.now c.deliver.new.self
    c.index_of.ensures c.item_of.ensures (omega (arith, known c.args.self.now c.args.element c.knows.result c.knows.ensures c.if-not-knows.false, c.index_of.ensures)) c.index_mut.ensures.value (sym c.holds.ensures ∙ c.if-not-holds.false) c.deliver.ensures
