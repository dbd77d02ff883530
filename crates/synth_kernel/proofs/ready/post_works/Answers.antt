use Rattle.synth_kernel.proofs.Common.{length, ap, arith}
use Rattle.synth_kernel.proofs.ready.post_works.Goals as goal

pub returns : goal.returns
returns g c = let p = c.in-Ok-post_all.ensures in record {
  parts = c.post_all.ensures.parts;
  posted = p.posted;
  room = let had = c.in-Ok.ensures in let same = p.room in let gates = c.len.ensures in let ttys = ap length c.as_slice-devices.ensures in omega arith;
  free = p.free;
  none_on = p.none_on;
  prepared = p.prepared;
}
