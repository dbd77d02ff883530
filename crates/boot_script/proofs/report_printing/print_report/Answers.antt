use Rattle.boot_script.specs.Reports.{report_text}
use Rattle.boot_script.proofs.LineWords.KnownBytes.{appends_join}
use Rattle.boot_script.proofs.Input.Buffers.{then_written_out}
use Rattle.boot_script.proofs.report_printing.print_report.Goals as goal

pub returns-clause-effect : goal.returns-clause-effect
unfolding report_text
returns-clause-effect g c =
    let ttys = appends_join _ _ _ _ _ c.in_ok-put_all.ensures.effect c.in_ok-put_all-2.ensures.effect in
    let movers = appends_join _ _ _ _ _ ttys c.in_ok-put_all-3.ensures.effect in
    let gauges = appends_join _ _ _ _ _ movers c.in_ok-put_all-4.ensures.effect in
    let alarms = appends_join _ _ _ _ _ gauges c.in_ok-put.ensures.effect in
    let threads = appends_join _ _ _ _ _ alarms c.in_ok-put_all-5.ensures.effect in
    let heard = appends_join _ _ _ _ _ threads c.in_ok-put_heard.ensures.effect in
    let chained = appends_join _ _ _ _ _ heard c.in_ok-put-2.ensures.effect in
    let shown-queues = c.as_slice.ensures in
    let shown-ttys = c.as_slice-2.ensures in
    let shown-movers = c.as_slice-3.ensures in
    let shown-gauges = c.as_slice-4.ensures in
    let shown-threads = c.as_slice-5.ensures in
    then_written_out c.write_out.result _ _ _ _ _ _ _ c.new-buffer.ensures chained (simp (shown-queues, shown-ttys, shown-movers, shown-gauges, shown-threads)) c.write_out.ensures.text
