use Rattle.quajects.proofs.Common.{rules, refl, view_of}
use Rattle.quajects.proofs.Joining.{alone_has, join_more}
use Rattle.quajects.proofs.settling.join_all.Goals as goal

pub loop-other-init : goal.loop-other-init
loop-other-init g c = record { same = (refl, refl); joined = alone_has (view_of c.args.end.now) }

pub loop-other-preserved : goal.loop-other-preserved
loop-other-preserved g c = record {
  same = search rules;
  joined = join_more c.args.end.now c.loop-other.yielded c.in-Some.other c.loop-other.end c.join.new.end c.loop-other.invariant.joined c.join.ensures.trace c.join.ensures.effect;
}
