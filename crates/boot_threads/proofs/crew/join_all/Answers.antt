use Rattle.boot_threads.proofs.Common.{rules, refl, WasJoined, zip_more}
use Rattle.boot_threads.proofs.crew.join_all.Goals as goal

pub loop-handle-preserved : goal.loop-handle-preserved
loop-handle-preserved g c = record {
  room = search rules;
  joined = zip_more (WasJoined g.R.Witness.ran g.J.Job.gives) _ _ _ _ _ _ refl c.push_reserved.ensures.items c.loop-handle.invariant.joined c.join_one.ensures;
}
