use Rattle.boot_script.proofs.Common.{refl, tty_lines}
use Rattle.boot_script.proofs.LineWords.KnownBytes.{appends_join, then_appends}
use Rattle.boot_script.proofs.report_printing.TtyLinesLines.print.Goals as goal

pub returns-clause-effect : goal.returns-clause-effect
unfolding tty_lines
returns-clause-effect g c =
    let raw = appends_join _ _ _ _ _ c.in_ok-print_tty.ensures.effect c.in_ok-print_tty_queue.ensures.effect in
    let line = appends_join _ _ _ _ _ raw c.in_ok-print_tty_queue-2.ensures.effect in
    then_appends c.print_tty_queue-3.result _ _ _ _ _ _ line c.print_tty_queue-3.ensures.effect refl
