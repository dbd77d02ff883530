use Rattle.quaject_core.proofs.Common.{true, Ok, ap, sym, arith, Thread}
use Rattle.quaject_core.proofs.Stored.Elements.{stored_changed, known}
use Rattle.quaject_core.proofs.elements.StoredElements.stop.Goals as goal

pub returns-clause-change : goal.returns-clause-change
returns-clause-change c =
    stored_changed c.args.self.now c.index_of.result c.args.element (λ (old : Thread). Ok (record old { stop = true })) c.index_mut.result.now c.stop.new.self
    c.index_of.ensures (omega (arith, known c.args.self.now c.args.element c.knows.result c.knows.ensures c.if-not-knows.false, c.index_of.ensures)) c.index_mut.ensures.value (ap Ok (sym c.stop.ensures))
