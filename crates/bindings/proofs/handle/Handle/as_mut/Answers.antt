use Rattle.std.proofs.Common.{refl}
use Rattle.bindings.proofs.Holding.{still_holding}
use Rattle.bindings.proofs.handle.Handle.as_mut.Goals as goal

pub returns : goal.returns
returns c = ((refl, λ w. still_holding c.args.self.now w _ c.requires), record { writes_back = tt; value = c.as_mut.ensures.value })
