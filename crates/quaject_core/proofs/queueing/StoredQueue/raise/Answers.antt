use Rattle.std.proofs.Common.{◌+◌, refl, sym, ◌∙◌, arith}
use Rattle.quaject_core.proofs.Stored.Queues.{not_true, not_false, raise_unknown_run, raise_past, raise_other, raise_again, raised_laid, raised_lawful, raised_ok, place_within, same_place}
use Rattle.quaject_core.proofs.queueing.StoredQueue.raise.Goals as goal

pub returns-in_default : goal.returns-in_default
returns-in_default c = (refl, raise_unknown_run c.args.self.now c.args.call c.args.run c.args.index (sym c.span.ensures ∙ c.in_default.is))

pub returns-then-index-span : goal.returns-then-index-span
returns-then-index-span c = (refl, raise_past c.args.self.now c.args.call c.args.run c.args.index c.in-Some.span (sym c.in-Some.ensures) c.if-index-span.true)

pub returns-then-ne : goal.returns-then-ne
returns-then-ne c = (refl, raise_other c.args.self.now c.args.call c.args.run c.args.index c.in-Some.span (sym c.in-Some.ensures) c.if-index-span.false (not_true _ c.if-ne.ensures))

pub overflow_add-place : goal.overflow_add-place
overflow_add-place c = omega (arith, place_within c.args.self.now c.args.run c.args.index c.in-Some.span (sym c.in-Some.ensures) c.if-index-span.false, c.args.self.now.places.ok, c.args.self.now.places.small)

pub index-requires : goal.index-requires
index-requires c = omega (arith, place_within c.args.self.now c.args.run c.args.index c.in-Some.span (sym c.in-Some.ensures) c.if-index-span.false, c.args.self.now.places.ok)

pub returns-then-index : goal.returns-then-index
returns-then-index c = (refl, raise_again c.args.self.now c.args.call c.args.run c.args.index c.in-Some.span c.index.result.now (sym c.in-Some.ensures) c.if-index-span.false (not_false _ c.if-ne.ensures) c.index.ensures c.if-index.true)

pub index_mut-requires : goal.index_mut-requires
index_mut-requires c = omega (arith, place_within c.args.self.now c.args.run c.args.index c.in-Some.span (sym c.in-Some.ensures) c.if-index-span.false, c.args.self.now.places.ok)

pub invariant_of-self : goal.invariant_of-self
invariant_of-self c = record {
  laid_out = raised_laid c.args.self.now (c.in-Some.span.start + c.args.index) _;
  lawful = raised_lawful c.args.self.now c.args.run c.args.index c.in-Some.span c.index_mut.result.now (sym c.in-Some.ensures) c.if-index-span.false c.index_mut.ensures.value;
}

pub returns : goal.returns
returns c = raised_ok c.args.self.now c.args.call c.args.run c.args.index c.in-Some.span c.index_mut.result.now (sym c.in-Some.ensures) c.if-index-span.false (not_false _ c.if-ne.ensures) c.index_mut.ensures.value
    (same_place c.args.self.now.places.items (c.in-Some.span.start + c.args.index) c.index_mut.result.now c.index.result.now
    (place_within c.args.self.now c.args.run c.args.index c.in-Some.span (sym c.in-Some.ensures) c.if-index-span.false) c.index_mut.ensures.value c.index.ensures ∙ c.if-index.false)
