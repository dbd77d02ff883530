use Rattle.meters.proofs.Common.{ap, arith, ends_word, refl, rules, ◌-◌, ◌∙◌}
use Rattle.table_theory.proofs.Moments.{why_open}
use Rattle.table_theory.specs.Ledgers.{WereOpen}
use Rattle.table_theory.specs.declared.views.Part.{Part}
use Rattle.meters.proofs.Clients.{loads_alone}
use Rattle.meters.proofs.Ending.{steps_by}
use Rattle.meters.proofs.Following.{made_own}
use Rattle.meters.proofs.Settling.{clock_fits, closes}
use Rattle.meters.proofs.Stepping.{tallies}
use Rattle.meters.proofs.ends.Meters.close.Goals as goal

pub count-requires-clause-allowed : goal.count-requires-clause-allowed
count-requires-clause-allowed c = tallies _ _ _ _ c.args.seat.one

pub overflow_cast-clock : goal.overflow_cast-clock
overflow_cast-clock c = let fits = clock_fits _ _ _ _ _ _ c.close_by-closed.ensures.values.2 c.word-clock.ensures in omega arith

pub returns-clause-closed : goal.returns-clause-closed
returns-clause-closed c = let ends = c.in-Ok.ensures.alone in
    closes _ _ _ _ _ _ _ _ _ _ c.args.seat.one ends.1.1 refl c.close_by-closed.ensures.values.2 c.read_gauges-gauges.ensures c.word-clock.ensures c.read_alarms-alarms.ensures

pub invariant_of-result : goal.invariant_of-result
invariant_of-result c = let seat = c.args.seat in let f = c.in-Err.ensures.frame in record { bare = f.2 ∙ seat.bare; one = ap (λ (z : Part). z.ends) f.3.1.made.member ∙ seat.one; valid = ∣ f.3.0 ∣₁ }

pub returns-in-Err : goal.returns-in-Err
returns-in-Err c = let f = c.in-Err.ensures.frame in let t = f.3.1 in let o : WereOpen ends_word c.args.seat.seat.me.0 (c.in-Err.ends - 1) c.in-Err.seat.me.0 = search rules in record {
  only = o.not_whole;
  closed = tt;
  effect = loads_alone _ _ ends_word c.in-Err.ends (t.found, t.made.adds);
  frame = record { steps = _; adds = t.made.adds; kept = (refl, tt) };
  owns = made_own _ _ _ _ t.made;
  error = why_open ends_word _ _ _ o;
  steps = steps_by 1 _ _ _ t.made.adds (omega arith);
  trace = o;
  handle = (refl, f.1);
}
