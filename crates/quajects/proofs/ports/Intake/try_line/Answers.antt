use Rattle.std.proofs.Common.{ℕ, ◌%◌, ◌^◌, ◌+◌, ap, refl, ◌∙◌}
use Rattle.quajects.proofs.Answered.{take_answered}
use Rattle.quajects.proofs.Counts.{counted_held}
use Rattle.quajects.proofs.Staying.{take_post}
use Rattle.quajects.proofs.ports.Intake.try_line.Goals as goal

pub invariant_of-self : goal.invariant_of-self
invariant_of-self g c = let t = take_answered _ _ _ _ _ c.try_take_line.ensures.line c.try_take_line.ensures.effect in record {
  number = ap (λ (z : ℕ). (c.args.self.now.taken + z) % 2 ^ 64) c.len.ensures.value ∙ counted_held _ _ _ _ c.args.self.now.number t.0;
  only = t.1 ∙ c.args.self.now.only;
}

pub returns-clause-effect : goal.returns-clause-effect
returns-clause-effect g c = (take_answered _ _ _ _ _ c.try_take_line.ensures.line c.try_take_line.ensures.effect).0

pub returns-clause-handle : goal.returns-clause-handle
returns-clause-handle g c = take_post _ _ c.args.self.now.end c.try_take_line.new.end _ _ refl c.try_take_line.ensures.handle c.try_take_line.ensures.trace
