use Rattle.std.proofs.Common.{◌≡◌, ap, sym, ◌∙◌, arith, refl}
use Rattle.std.proofs.lemmas.Option.{slice_get_within as found_within}
use Rattle.quaject_core.proofs.Stored.Elements.{stored_done, stored_not_done, same_read}
use Rattle.quaject_core.proofs.elements.StoredElements.done.Goals as goal

pub returns-then-not-may_step-clause-change : goal.returns-then-not-may_step-clause-change
returns-then-not-may_step-clause-change c =
    (refl, stored_not_done c.args.self.now c.args.call c.args.element c.item_of.result c.in-Some.thread c.item_of.ensures (sym c.in-Some.ensures) (omega arith) (sym c.may_step.ensures ∙ c.if-not-may_step.true))

pub index_mut-requires : goal.index_mut-requires
index_mut-requires c = omega (arith, found_within c.args.self.now.threads.items c.args.element c.in-Some.thread (sym c.in-Some.ensures), c.index_of.ensures, c.args.self.now.threads.ok)

pub step-requires : goal.step-requires
step-requires c =
    let again = same_read c.args.self.now.threads.items c.index_of.result c.args.element c.index_mut.result.now c.in-Some.thread c.index_of.ensures
    (omega (arith, found_within c.args.self.now.threads.items c.args.element c.in-Some.thread (sym c.in-Some.ensures), c.index_of.ensures)) c.index_mut.ensures.value (sym c.in-Some.ensures) in
    let steps : c.index_mut.result.now.done ≡ c.in-Some.thread.done = ap (λ t. t.done) again in
    omega arith

pub returns-clause-change : goal.returns-clause-change
returns-clause-change c =
    stored_done c.args.self.now c.args.call c.index_of.result c.args.element c.item_of.result c.in-Some.thread c.index_mut.result.now c.step.new.self
    c.index_of.ensures c.item_of.ensures (omega (arith, found_within c.args.self.now.threads.items c.args.element c.in-Some.thread (sym c.in-Some.ensures), c.index_of.ensures)) (sym c.in-Some.ensures) c.index_mut.ensures.value
    (omega arith) (sym c.may_step.ensures ∙ c.if-not-may_step.false) c.step.ensures
