-- The closed meters by the logs.
use Rattle.boot_laws.proofs.Common.{Done, ◌≡◌, List, ◌++◌, sym, ap, ◌∙◌, arith, append-nil, BootPlan, Account, LogEntry, ClosedTables, WorkedTogether, MetersEnded, total_of, ◌%◌, GaugesAgree, AlarmsAgree}
use Rattle.meters.specs.declared.rule.MeterOps.{MeterOps}
use Rattle.meters.specs.Own.{nothing_did, did_both}
use Rattle.event_theory.specs.Numbers.{u64_values}
use Rattle.meters.specs.Views.{amount_on, times}
use Rattle.boot_laws.proofs.Totals.{all_of, all_did}
use Rattle.boot_laws.proofs.Turns.{all_work}

module _ (plan : BootPlan) (logs : List (List LogEntry)) (done : Done) (w : WorkedTogether plan logs done) (c : ClosedTables) (e : MetersEnded done.in_all c) where
  -- the plan's alarms were set, and then was done what the logs say
  meters_did : done.in_all.meters ≡ did_both (record nothing_did { set = plan.alarms }) (total_of logs).meters
  meters_did = ap (λ (a : Account). a.meters) (all_did plan logs done w)

  pub gauges_agree : GaugesAgree c.gauges logs
  gauges_agree gauge value at = e.gauges gauge value at ∙ ap (λ (d : MeterOps). amount_on gauge d.ticks % u64_values) meters_did

  pub alarms_agree : AlarmsAgree plan c logs
  alarms_agree = let rest = all_work (all_of logs) in record {
    each = λ a. let s : times a done.in_all.meters.set ≡ times a plan.alarms = ap (times a) (ap (λ (d : MeterOps). d.set) meters_did ∙ (ap (λ l. plan.alarms ++ l) rest.set ∙ append-nil plan.alarms)) in
        let f : times a done.in_all.meters.fired ≡ times a c.fired = ap (times a) (sym e.fired) in
        let n : times a done.in_all.meters.cancelled ≡ 0 = ap (times a) (ap (λ (d : MeterOps). d.cancelled) meters_did ∙ rest.cancelled) in
        let all = e.alarms a in omega arith;
    by = e.fired ∙ ap (λ (d : MeterOps). d.fired) meters_did;
  }
