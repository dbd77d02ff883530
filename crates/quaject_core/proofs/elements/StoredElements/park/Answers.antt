use Rattle.std.proofs.Common.{refl, sym, ◌∙◌, arith}
use Rattle.std.proofs.lemmas.Option.{slice_get_within as found_within}
use Rattle.quaject_core.proofs.Stored.Elements.{stored_parked, stored_not_held, stored_not_stopped}
use Rattle.quaject_core.proofs.elements.StoredElements.park.Goals as goal

pub returns-in_default-find-clause-change : goal.returns-in_default-find-clause-change
returns-in_default-find-clause-change c =
    (refl, stored_not_held c.args.self.now c.args.call c.args.element c.item_of.result c.in-Some.thread c.item_of.ensures (sym c.in-Some.ensures) (sym c.find.ensures ∙ c.in_default-find.is))

pub returns-then-not-is_stopping-clause-change : goal.returns-then-not-is_stopping-clause-change
returns-then-not-is_stopping-clause-change c = (
  refl,
  stored_not_stopped c.args.self.now c.args.call c.args.element c.item_of.result c.in-Some-find.index c.in-Some.thread c.item_of.ensures (sym c.in-Some.ensures) (sym c.in-Some-find.ensures)
      (sym c.is_stopping.ensures ∙ c.if-not-is_stopping.true),
)

pub returns-clause-change : goal.returns-clause-change
returns-clause-change c =
    stored_parked c.args.self.now c.args.call c.index_of.result c.args.element c.item_of.result c.in-Some-find.index c.in-Some.thread c.index_mut.result.now c.park.new.self c.remove.new.self.holds.items
    c.index_of.ensures c.item_of.ensures (omega (arith, found_within c.args.self.now.threads.items c.args.element c.in-Some.thread (sym c.in-Some.ensures), c.index_of.ensures)) (sym c.in-Some.ensures) c.index_mut.ensures.value
    (sym c.in-Some-find.ensures) (sym c.is_stopping.ensures ∙ c.if-not-is_stopping.false) c.park.ensures c.remove.ensures
