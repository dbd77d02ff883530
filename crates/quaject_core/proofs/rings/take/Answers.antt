use Rattle.quaject_core.proofs.Common.{arith, take_first, queue}
use Rattle.quaject_core.proofs.Stored.Lifts.{place_changes}
use Rattle.quaject_core.proofs.rings.take.Goals as goal

pub returns-clause-what : goal.returns-clause-what
returns-clause-what c =
    place_changes queue c.take.result (take_first 1 c.args.count) c.args.rings.now.items c.args.ring c.index_mut.result.now c.take.new.self
    (omega (arith, c.args.rings.now.ok)) c.index_mut.ensures.value c.take.ensures
