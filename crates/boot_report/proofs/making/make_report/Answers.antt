use Rattle.boot_report.proofs.Common.{◌≡◌, ◌∙◌, ◌%◌, ◌^◌, ℕ, List, length, map, ap, subst, sum_by, BootPlan, numbered, queue_line, gauge_line, mover_line, heard_line, left_in, heard_at, alarm_counts}
use Rattle.boot_report.proofs.Saying.{says}
use Rattle.boot_report.proofs.making.make_report.Goals as goal

pub returns-clause-made : goal.returns-clause-made
returns-clause-made c =
    let plan = c.plan-plan.ensures in
    let counts = c.counts-counts.ensures in
    let queues = c.as_slice.ensures ∙ ap (λ (z : BootPlan). z.queues) plan in
    let small = c.small.ensures in
    let movers = c.as_slice-2.ensures ∙ ap (λ (z : BootPlan). z.movers) plan in
    let gauges = c.as_slice-3.ensures ∙ ap (λ (z : BootPlan). z.gauges) plan in
    let values = c.gauges.ensures in
    let alarms = c.as_slice-4.ensures ∙ ap (λ (z : BootPlan). z.alarms) plan in
    let threads = c.as_slice-5.ensures ∙ ap (λ (z : BootPlan). z.threads) plan in record {
      queues = c.new.ensures ∙ (c.queue_lines-queues.ensures ∙ (λ i. numbered (queue_line (small i)) 0 (queues i)));
      ttys = c.new-2.ensures ∙ c.lines_of_ttys-ttys.ensures;
      movers = c.new-3.ensures ∙ (c.mover_lines-movers.ensures ∙ (λ i. numbered (mover_line (counts i)) 0 (movers i)));
      gauges = c.new-4.ensures ∙ (c.gauge_lines-gauges.ensures.lines ∙ (λ i. numbered (gauge_line (values i)) 0 (gauges i)));
      alarms = c.counts_of_alarms-alarms.ensures ∙ (λ i. alarm_counts (length (alarms i)) (c.alarms_left.ensures i));
      threads = c.new-5.ensures ∙ c.thread_lines-threads.ensures;
      heard_is = c.report_heard-heard.ensures ∙ (λ i. map (heard_line (threads i)) (map (heard_at c.args.heard.items) c.args.lines.places.items));
      chained = c.all_left-chained.ensures ∙ (λ i. sum_by left_in (counts i) % 2 ^ 64);
    }

pub returns-clause-says : goal.returns-clause-says
returns-clause-says c = λ closed shows. says closed c.args.ended.now (map (heard_at c.args.heard.items) c.args.lines.places.items) c.args.typed.now _ shows (returns-clause-made c)
    (subst (λ (z : List ℕ). length z ≡ 8) c.gauges.ensures c.gauge_lines-gauges.ensures.eight)
