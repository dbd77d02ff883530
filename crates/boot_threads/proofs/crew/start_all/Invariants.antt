use Rattle.boot_threads.proofs.Common.{◌+◌, ◌≤◌, vec_len, vec_capacity, AllZip, into_iter_len, StartReports, into_iter_items}
use Rattle.std.proofs.Common.{All}
use Rattle.boot_threads.proofs.crew.start_all.Given as goal

abbrev pub invariant-loop-job : goal.invariant-loop-job
invariant-loop-job g l = record {
  room : vec_len l.handles + into_iter_len l.job-iterator ≤ vec_capacity l.handles;
  may : All (g.J.Job.may_run l.shared) (into_iter_items l.job-iterator);
  reported : AllZip (StartReports g.R.Witness.refused l.shared) l.yielded l.handles.items;
}
