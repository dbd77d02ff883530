use Rattle.boot_threads.proofs.Common.{rules, refl, ◌+◌, StartReports, zip_more}
use Rattle.boot_threads.proofs.crew.start_all.Goals as goal

pub loop-job-preserved : goal.loop-job-preserved
loop-job-preserved g c = record {
  room = search rules;
  may = λ k d below. let steps = c.in-Some.ensures.steps in let h = c.loop-job.invariant.may (k + 1) d in grind rules;
  reported = zip_more (StartReports g.R.Witness.refused c.args.shared.now) _ _ _ _ _ _ refl c.push_reserved.ensures.items c.loop-job.invariant.reported c.start_one.ensures;
}
