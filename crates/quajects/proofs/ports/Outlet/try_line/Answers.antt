use Rattle.std.proofs.Common.{refl, ◌∙◌}
use Rattle.quajects.proofs.Answered.{put_answered}
use Rattle.quajects.proofs.Counts.{counted_more}
use Rattle.quajects.proofs.Staying.{put_post}
use Rattle.quajects.proofs.ports.Outlet.try_line.Goals as goal

pub invariant_of-self : goal.invariant_of-self
invariant_of-self g c = let t = put_answered _ _ _ _ _ c.is_ok-put.ensures.value c.try_put.ensures.effect in record {
  number = counted_more _ _ _ _ _ c.args.self.now.number c.if-put.true t.0;
  only = t.1 ∙ c.args.self.now.only;
  raised = c.try_put.ensures.raised c.args.self.now.raised;
}

pub returns-then-put-clause-handle : goal.returns-then-put-clause-handle
returns-then-put-clause-handle g c = put_post _ _ c.args.self.now.end c.try_put.new.end _ _ refl c.try_put.ensures.handle c.try_put.ensures.trace

pub returns-else-put-clause-handle : goal.returns-else-put-clause-handle
returns-else-put-clause-handle g c = put_post _ _ c.args.self.now.end c.try_put.new.end _ _ refl c.try_put.ensures.handle c.try_put.ensures.trace
