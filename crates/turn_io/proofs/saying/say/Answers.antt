use Rattle.turn_io.proofs.Common.{List, ℕ, length, subst, view_of, distinct_end, RaisedFrom}
use Rattle.turn_io.proofs.Shares.{said_put}
use Rattle.turn_io.proofs.saying.say.Goals as goal

pub returns-in-Ok-clause-said : goal.returns-in-Ok-clause-said
returns-in-Ok-clause-said g c = let own = c.in-Ok.ensures.owns in (
  c.in-Ok.claim.start,
  said_put g.row.N (view_of c.args.end.now) (view_of c.try_claim_as.new.end) (view_of c.raise_all.new.end) _ _ _ _ own.0 own.1 (distinct_end c.try_claim_as.new.end) own.2 c.in-Ok.ensures.trace c.raise_all.ensures.raised,
)

pub returns-in-Ok-clause-points : goal.returns-in-Ok-clause-points
returns-in-Ok-clause-points g c = record {
  claimed = c.try_claim_as.new.end;
  start = c.in-Ok.claim.start;
  claims = c.in-Ok.ensures.trace;
  raises = subst (λ (z : List ℕ). RaisedFrom g.row.N c.in-Ok.claim.start z (view_of c.try_claim_as.new.end) (view_of c.raise_all.new.end) (length z)) c.in-Ok.ensures.owns.0 c.raise_all.ensures.raised;
  between = c.at_queue.new.self;
  at_claim = c.at_queue.ensures.shown;
  at_raise = c.at_queue-in-Ok.ensures.shown;
}
