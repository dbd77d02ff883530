use Rattle.boot_threads.proofs.Common.{◌+◌, ◌≤◌, vec_len, vec_capacity, AllZip, into_iter_len, WasJoined}
use Rattle.boot_threads.proofs.crew.join_all.Given as goal

abbrev pub invariant-loop-handle : goal.invariant-loop-handle
invariant-loop-handle g l = record {
  room : vec_len l.backs + into_iter_len l.handle-iterator ≤ vec_capacity l.backs;
  joined : AllZip (WasJoined g.R.Witness.ran g.J.Job.gives) l.yielded l.backs.items;
}
