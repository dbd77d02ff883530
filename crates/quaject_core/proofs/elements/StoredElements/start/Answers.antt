use Rattle.quaject_core.proofs.Common.{refl, sym, ◌∙◌, arith, length-map, elements, thread, started_room}
use Rattle.quaject_core.proofs.Stored.Elements.{stored_started, stored_not_started, shown_at}
use Rattle.std.proofs.lemmas.Option.{slice_get_within as found_within}
use Rattle.quaject_core.proofs.elements.StoredElements.start.Goals as goal

pub returns-then-not-is_stopping-clause-change : goal.returns-then-not-is_stopping-clause-change
returns-then-not-is_stopping-clause-change c =
    (refl, stored_not_started c.args.self.now c.args.call c.args.element c.in-Some.thread (sym c.in-Some.ensures) (sym c.is_stopping.ensures ∙ c.if-not-is_stopping.true))

pub push_if-requires : goal.push_if-requires
push_if-requires c = λ parked. let found = sym c.in-Some.ensures in
    omega (
      arith,
      started_room c.args.call c.args.element (elements c.args.self.now) (thread c.in-Some.thread) c.requires (shown_at thread c.args.self.now.threads.items c.args.element c.in-Some.thread found) (sym c.is_stopping.ensures ∙ c.if-not-is_stopping.false) (sym c.is_parked.ensures ∙ parked),
      length-map c.args.self.now.threads.items thread,
      c.args.self.now.threads.ok,
      c.args.self.now.all,
    )

pub index_mut-requires : goal.index_mut-requires
index_mut-requires c = omega (arith, found_within c.args.self.now.threads.items c.args.element c.in-Some.thread (sym c.in-Some.ensures), c.index_of.ensures, c.args.self.now.threads.ok)

pub returns-clause-change : goal.returns-clause-change
returns-clause-change c =
    stored_started c.args.self.now c.args.call c.index_of.result c.args.element c.item_of.result c.is_parked.result c.in-Some.thread c.index_mut.result.now c.start.new.self c.push_if.new.self.holds.items
    c.index_of.ensures c.item_of.ensures (omega (arith, found_within c.args.self.now.threads.items c.args.element c.in-Some.thread (sym c.in-Some.ensures), c.index_of.ensures)) (sym c.in-Some.ensures) c.index_mut.ensures.value
    (sym c.is_stopping.ensures ∙ c.if-not-is_stopping.false) c.is_parked.ensures c.start.ensures c.push_if.ensures
