use Rattle.quaject_core.proofs.Common.{true, Ok, ap, sym, arith, with_number, Thread}
use Rattle.quaject_core.proofs.Stored.Elements.{stored_changed, known}
use Rattle.quaject_core.proofs.elements.StoredElements.signal.Goals as goal

pub returns-clause-change : goal.returns-clause-change
returns-clause-change c =
    stored_changed c.args.self.now c.index_of.result c.args.element (λ (old : Thread). Ok (record old { pending = with_number true c.args.number old.pending })) c.index_mut.result.now c.signal.new.self
    c.index_of.ensures (omega (arith, known c.args.self.now c.args.element c.knows.result c.knows.ensures c.if-not-knows.false, c.index_of.ensures)) c.index_mut.ensures.value (ap Ok (sym c.signal.ensures))
