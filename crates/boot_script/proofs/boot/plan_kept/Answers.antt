use Rattle.boot_script.proofs.Common.{sym, subst, IsPlan}
use Rattle.boot_script.proofs.Drafts.Drawn.{same_plan}
use Rattle.boot_script.proofs.boot.plan_kept.Goals as goal

pub invariant_of-result : goal.invariant_of-result
invariant_of-result c = record {
  within = ∣ subst IsPlan (sym (same_plan _ _ _ _ _ _ _ _ _ _ _ _ c.new.ensures c.new-2.ensures c.new-3.ensures c.new-4.ensures c.new-5.ensures c.new-6.ensures)) c.requires ∣₁;
}
