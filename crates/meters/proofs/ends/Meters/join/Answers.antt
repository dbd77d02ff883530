use Rattle.meters.proofs.Common.{subst, ap, arith, nothing_did, did_both, ends_word}
use Rattle.table_theory.proofs.Parting.{took_in, two_ends}
use Rattle.meters.proofs.Ending.{join_counts, steps_by}
use Rattle.table_theory.specs.Moments.{StepsAtMost}
use Rattle.meters.proofs.Stepping.{downs, joins}
use Rattle.meters.proofs.ends.Meters.join.Goals as goal

pub take_in-requires-clause-allowed : goal.take_in-requires-clause-allowed
take_in-requires-clause-allowed c = let one = c.args.seat.now.one in joins _ _ _ _ _ (omega arith)

pub count_down-requires-clause-allowed : goal.count_down-requires-clause-allowed
count_down-requires-clause-allowed c = downs _ _ _ _ (two_ends nothing_did did_both ends_word c.args.seat.now.seat.me.0 c.args.other.seat.me.0 c.take_in.new.seat.me.0 c.args.seat.now.one c.args.other.one (ap (λ z. z.0) c.take_in.ensures.joined))

pub returns-clause-effect : goal.returns-clause-effect
returns-clause-effect c = let sound = c.count_down.ensures.suits in
    join_counts c.args.seat.now.seat.me.0 c.args.other.seat.me.0 _ sound (took_in nothing_did did_both ends_word c.args.seat.now.seat.me.0 c.args.other.seat.me.0 _ _ c.args.seat.now.one c.args.other.one (ap (λ z. z.0) c.take_in.ensures.joined) c.count_down.ensures.counted, sound.1)

pub returns-clause-steps : goal.returns-clause-steps
returns-clause-steps c = subst (λ z. StepsAtMost 1 z c.count_down.new.seat.me.0) (ap (λ z. z.0) c.take_in.ensures.joined) (steps_by 1 _ c.count_down.new.seat.me.0 _ c.count_down.ensures.counted.adds (omega arith))
