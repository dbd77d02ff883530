use Rattle.bindings.proofs.Calls.{ap, ◌∙◌, inr, of_kind}
use Rattle.bindings.proofs.Holding.{same_handle}
use Rattle.bindings.proofs.handle.Handle.find.Goals as goal

pub returns-in-None : goal.returns-in-None
returns-in-None g c = let p = c.as_mut.result.now in let e = c.as_mut.ensures.value in
    (ap inr (same_handle c.args.self.now p e), record { writes_back = tt; value = ap (of_kind g.K.Kind.found) e ∙ c.in-None.ensures.value })
