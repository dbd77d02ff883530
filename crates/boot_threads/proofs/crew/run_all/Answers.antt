use Rattle.boot_threads.proofs.Common.{rules, AllZip-long, StartReports}
use Rattle.boot_threads.proofs.Crews.{gave_all}
use Rattle.boot_threads.proofs.crew.run_all.Goals as goal

pub join_all-requires : goal.join_all-requires
join_all-requires g c =
    let long = AllZip-long (StartReports g.R.Witness.refused c.args.shared.now) c.args.jobs.items c.scoped-handles.result.items c.scoped-handles.ensures.1 in
    (c.requires.backs.0, grind rules)

pub returns : goal.returns
returns g c = gave_all g.R.Witness.ran g.R.Witness.refused g.J.Job.gives c.args.shared.now c.args.jobs.items c.scoped-handles.result.items c.join_all.result.items c.scoped-handles.ensures.1 c.join_all.ensures
