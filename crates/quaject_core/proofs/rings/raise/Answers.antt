use Rattle.quaject_core.proofs.Common.{arith, raise, queue}
use Rattle.quaject_core.proofs.Stored.Lifts.{place_changes}
use Rattle.quaject_core.proofs.rings.raise.Goals as goal

pub returns-clause-what : goal.returns-clause-what
returns-clause-what c =
    place_changes queue c.raise.result (raise c.args.call c.args.run c.args.index) c.args.rings.now.items c.args.ring c.index_mut.result.now c.raise.new.self
    (omega (arith, c.args.rings.now.ok)) c.index_mut.ensures.value c.raise.ensures
