use Rattle.boot_script.proofs.Common.{codes, on_ok_weaker, thread_line}
use Rattle.boot_script.proofs.LineWords.KnownBytes.{appends_join, appends_word}
use Rattle.boot_script.proofs.report_printing.ThreadLineLines.print.Goals as goal

pub returns-clause-effect : goal.returns-clause-effect
unfolding thread_line
returns-clause-effect g c =
    let part2 = appends_join _ _ _ _ _ c.in_ok-print_named.ensures.effect c.in_ok-write_text.ensures.bytes in
    let part3 = appends_join _ _ _ _ _ part2 c.in_ok-print_state.ensures.effect in
    let part4 = appends_word _ _ _ _ (codes " ") _ part3 c.in_ok-print_number.ensures.effect in
    let part5 = appends_join _ _ _ _ _ part4 c.in_ok-print_signals.ensures.effect in
    on_ok_weaker c.write_text-2.result (λ last. appends_join _ _ _ _ _ part5 last) c.write_text-2.ensures.bytes
