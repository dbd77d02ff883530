use Rattle.claim_queue.proofs.Common.{rules, arith, grows_refl}
use Rattle.table_theory.proofs.Positioned.{grows_trans}
use Rattle.claim_queue.proofs.Walking.{none_walked, walked_more, walked_to_gap, raised_more}
use Rattle.claim_queue.proofs.ends.ClaimQueue.count_raised.Goals as goal

pub loop-i-init : goal.loop-i-init
loop-i-init g c = let t = c.requires.tail in record { same = search rules; grows = grows_refl _; first = t.0; started = t.1; raised = λ i h. absurd (omega arith); walking = none_walked g.row.N _ _ }

pub returns-then-flag-position-clause-trace : goal.returns-then-flag-position-clause-trace
returns-then-flag-position-clause-trace g c = walked_to_gap g.row.N _ _ _ _ _ _ _ c.loop-i.invariant.walking c.loop-i-test.true c.load_flag-flag.ensures.found c.if-flag-position.true

pub returns-then-flag-position-clause-grows : goal.returns-then-flag-position-clause-grows
returns-then-flag-position-clause-grows g c = grows_trans _ _ _ c.loop-i.invariant.grows c.load_flag-flag.ensures.found.grows

pub loop-i-preserved : goal.loop-i-preserved
loop-i-preserved g c = let l = c.loop-i.invariant in let f = c.load_flag-flag.ensures in let from = l.first in let s = l.started in let first = f.found.grows.first in let further = f.found.grows.further in record {
  same = search rules;
  grows = grows_trans _ _ _ l.grows f.found.grows;
  first = omega arith;
  started = omega arith;
  raised = raised_more _ _ _ _ _ _ f.found l.first l.raised (f.raised c.if-flag-position.false);
  walking = walked_more g.row.N _ _ _ _ _ _ l.walking f.found c.if-flag-position.false;
}
