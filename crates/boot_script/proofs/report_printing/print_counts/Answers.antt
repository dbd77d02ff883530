use Rattle.boot_script.proofs.Common.{codes, on_ok_weaker, counts_words}
use Rattle.boot_script.proofs.LineWords.KnownBytes.{appends_join, appends_word}
use Rattle.boot_script.proofs.report_printing.print_counts.Goals as goal

pub returns-clause-effect : goal.returns-clause-effect
unfolding counts_words
returns-clause-effect g c =
    let part2 = appends_word _ _ _ _ (codes " taken ") _ c.in_ok-print_number.ensures.effect c.in_ok-print_number-2.ensures.effect in
    let part3 = appends_word _ _ _ _ (codes " left ") _ part2 c.in_ok-print_number-3.ensures.effect in
    on_ok_weaker c.write_text.result (λ last. appends_join _ _ _ _ _ part3 last) c.write_text.ensures.bytes
