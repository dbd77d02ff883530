use Rattle.boot_script.proofs.Common.{on_ok_weaker, tty_queue}
use Rattle.boot_script.proofs.LineWords.KnownBytes.{appends_join, appends_as}
use Rattle.boot_script.proofs.report_printing.print_tty_queue.Goals as goal

pub returns-clause-effect : goal.returns-clause-effect
unfolding tty_queue
returns-clause-effect g c =
    let part2 = appends_join _ _ _ _ _ c.in_ok-print_named.ensures.effect c.in_ok-write_text.ensures.bytes in
    let part3 = appends_join _ _ _ _ _ part2 (appends_as _ _ _ _ c.in_ok-write_text-2.ensures.bytes c.as_bytes.ensures.value) in
    on_ok_weaker c.print_counts.result (λ last. appends_join _ _ _ _ _ part3 last) c.print_counts.ensures.effect
