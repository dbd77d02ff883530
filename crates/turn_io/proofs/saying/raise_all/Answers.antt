use Rattle.turn_io.proofs.Common.{rules, ◌<◌, length, none_raised, raised_more}
use Rattle.turn_io.proofs.Shares.{raised_next}
use Rattle.turn_io.proofs.saying.raise_all.Goals as goal

pub loop-i-init : goal.loop-i-init
loop-i-init g c = record {
  queue = search rules;
  same = search rules;
  own = search rules;
  raised = search rules;
  done = none_raised _ _ _ _ c.requires.owns.0;
}

pub loop-i-preserved : goal.loop-i-preserved
loop-i-preserved g c = let l = c.loop-i.invariant in
    let below : c.loop-i.i < length c.args.claim.now.items.items = search rules in record {
      queue = search rules;
      same = search rules;
      own = search rules;
      raised = search rules;
      done = raised_more _ _ _ _ _ _ _ below c.requires.owns.0 l.done (raised_next _ _ _ _ _ _ _ _ _ _ _ _ c.raise_next-raised.ensures.raised c.raise_next-raised.ensures.trace l.same.0 l.same.1 l.raised below);
    }
