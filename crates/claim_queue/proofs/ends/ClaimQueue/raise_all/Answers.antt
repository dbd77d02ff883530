use Rattle.claim_queue.proofs.Common.{rules, refl}
use Rattle.claim_queue.proofs.Putting.{none_raised, raised_more}
use Rattle.claim_queue.proofs.Raising.{others_on}
use Rattle.claim_queue.proofs.ends.ClaimQueue.raise_all.Goals as goal

pub loop-i-init : goal.loop-i-init
loop-i-init g c = record { same = (refl, refl); own = c.requires.owns.0; others = λ other xs r ne own. own; steps = none_raised _ _ _ _ c.requires.owns.0 }

pub loop-i-preserved : goal.loop-i-preserved
loop-i-preserved g c = let l = c.loop-i.invariant in record {
  same = search rules;
  own = c.raise_place.ensures.owns;
  others = others_on c.args.start c.args.end.now.seat.me.0 c.loop-i.end.seat.me.0 c.raise_place.new.end.seat.me.0 l.others c.raise_place.ensures.frame;
  steps = raised_more _ _ _ _ _ _ _ c.loop-i-test.true c.requires.owns.0 l.steps c.raise_place.ensures.trace;
}
