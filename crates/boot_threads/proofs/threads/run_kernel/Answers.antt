use Rattle.boot_threads.proofs.Common.{arith, AllZip-long, HasWorked, calls}
use Rattle.boot_threads.proofs.Crews.{gave_all}
use Rattle.boot_threads.proofs.Crews.{typed_past}
use Rattle.boot_threads.proofs.threads.run_kernel.Goals as goal

pub join_all-requires : goal.join_all-requires
join_all-requires g c =
    let long = AllZip-long _ _ _ c.scoped-handles.ensures.1.0 in
    let works = c.args.works.ok in
    let handles = c.scoped-handles.result.0.ok in
    let room = c.requires.backs.1 in
    (c.requires.backs.0, omega arith)

pub returns-clause-worked : goal.returns-clause-worked
returns-clause-worked g c = gave_all g.R.Witness.ran g.R.Witness.refused (HasWorked (calls g.G.Gate.observes g.G.TurnGate.learns)) c.args.shared.now c.args.works.items c.scoped-handles.result.0.items c.join_all.result.items c.scoped-handles.ensures.1.0 c.join_all.ensures

pub returns-clause-typed : goal.returns-clause-typed
returns-clause-typed g c = typed_past g.R.Witness.ran (HasWorked (calls g.G.Gate.observes g.G.TurnGate.learns)) c.args.processors c.args.shared.now.plan.ttys c.scoped-handles.result.0.items c.join_all.result.items c.args.lines.items c.scoped-handles.result.1.items
    c.join_all.ensures c.scoped-handles.ensures.1.1
