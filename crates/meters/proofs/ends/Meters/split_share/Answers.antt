use Rattle.meters.proofs.Common.{sym, subst, ℕ, ◌+◌, ◌∙◌, ap, arith}
use Rattle.table_theory.specs.declared.views.Part.{Part}
use Rattle.table_theory.specs.Sharing.{IsPortion}
use Rattle.table_theory.specs.Moments.{StepsAtMost}
use Rattle.meters.proofs.Stepping.{ups, splits}
use Rattle.meters.proofs.Ending.{steps_by}
use Rattle.meters.proofs.ends.Meters.split_share.Goals as goal

pub count_up-requires-clause-allowed : goal.count_up-requires-clause-allowed
count_up-requires-clause-allowed c = let one = c.args.seat.now.one in let some_kept = c.requires.parts.1 in let some_given = c.requires.parts.0 in ups _ _ _ _ (omega arith)

pub split_share_off-new-requires-clause-allowed : goal.split_share_off-new-requires-clause-allowed
split_share_off-new-requires-clause-allowed c = splits _ _ _ _ (λ h. subst (IsPortion c.args.share) (sym (ap (λ (z : Part). z.share) c.count_up.ensures.counted.member)) c.requires.parts) (ap (λ (z : Part). z.ends) c.count_up.ensures.counted.member ∙ ap (λ (z : ℕ). z + 1) c.args.seat.now.one)

pub returns-clause-steps : goal.returns-clause-steps
returns-clause-steps c = subst (λ z. StepsAtMost 1 c.args.seat.now.seat.me.0 z.0) (sym c.split_share_off-new.ensures.split.0) (steps_by 1 c.args.seat.now.seat.me.0 c.count_up.new.seat.me.0 _ c.count_up.ensures.counted.adds (omega arith))
