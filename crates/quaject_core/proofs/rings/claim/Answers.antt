use Rattle.quaject_core.proofs.Common.{arith, claim, queue}
use Rattle.quaject_core.proofs.Stored.Lifts.{place_changes}
use Rattle.quaject_core.proofs.rings.claim.Goals as goal

pub returns-clause-what : goal.returns-clause-what
returns-clause-what c =
    place_changes queue c.claim.result (claim 1 c.args.call c.args.items.now) c.args.rings.now.items c.args.ring c.index_mut.result.now c.claim.new.self
    (omega (arith, c.args.rings.now.ok)) c.index_mut.ensures.value c.claim.ensures
