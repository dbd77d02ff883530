use Rattle.std.proofs.Common.{◌≡◌, List, sym, ap, subst}
use Rattle.std.specs.List.{All}
use Rattle.proc_chain.specs.declared.ends.ProcChain.{ProcChain}
use Rattle.quajects.specs.declared.any.AnyQuaject.{AnyQuaject}
use Rattle.quajects.specs.declared.world.Queues.{Queues}
use Rattle.turn_io.specs.EndLists.{chain_table, chain_end_table}
use Rattle.turn_tests.proofs.turns.movers.stand_pumped.Goals as goal

pub returns-clause-other : goal.returns-clause-other
returns-clause-other g c =
    let other = c.split_pump-ways.result.1 in
    let same : c.in-Ok.shared.chains.items ≡ c.split_pump-ways.result.0.chains.items = ap (λ v. v.items) c.in-Ok.ensures.chains in
    let e = c.split_pump-ways.ensures.other in
    (subst (λ (z : List (ProcChain AnyQuaject Queues)). All (λ chain. chain_end_table other ≡ chain_table chain) z) (sym same) e.0, e.1)
