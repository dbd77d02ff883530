use Rattle.boot_script.proofs.Common.{ap, on_ok_weaker, numbered_lines, queue_line, chain_line, element_line, gauge_line, notified_line, status_text}
use Rattle.boot_script.proofs.LineWords.KnownBytes.{appends_join, appends_as}
use Rattle.boot_script.proofs.printing.print_lines.Goals as goal

pub returns-clause-effect : goal.returns-clause-effect
unfolding status_text
returns-clause-effect g c =
    let part2 = appends_join _ _ _ _ _ c.in_ok-print_number.ensures.effect c.in_ok-write_text.ensures.bytes in
    let part3 = appends_join _ _ _ _ _ part2 (appends_as _ _ _ _ c.in_ok-print_queues.ensures.effect (ap (λ things. numbered_lines queue_line 0 things) c.as_slice.ensures)) in
    let part4 = appends_join _ _ _ _ _ part3 (appends_as _ _ _ _ c.in_ok-print_chains.ensures.effect (ap (λ things. numbered_lines chain_line 0 things) c.as_slice-2.ensures)) in
    let part5 = appends_join _ _ _ _ _ part4 (appends_as _ _ _ _ c.in_ok-print_elements.ensures.effect (ap (λ things. numbered_lines element_line 0 things) c.as_slice-3.ensures)) in
    let part6 = appends_join _ _ _ _ _ part5 (appends_as _ _ _ _ c.in_ok-print_gauges.ensures.effect (ap (λ things. numbered_lines gauge_line 0 things) c.as_slice-4.ensures)) in
    let part7 = appends_join _ _ _ _ _ part6 c.in_ok-print_clock.ensures.effect in
    let part8 = appends_join _ _ _ _ _ part7 c.in_ok-print_alarms.ensures.effect in
    on_ok_weaker c.print_notifies.result (λ last. appends_join _ _ _ _ _ part8 (appends_as _ _ _ _ last (ap (λ things. numbered_lines notified_line 0 things) c.as_slice-5.ensures))) c.print_notifies.ensures.effect
