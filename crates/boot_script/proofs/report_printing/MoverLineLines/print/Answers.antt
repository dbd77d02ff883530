use Rattle.boot_script.proofs.Common.{ap, codes, on_ok_weaker, named, mover_line}
use Rattle.boot_script.proofs.LineWords.KnownBytes.{appends_join, appends_word, appends_as}
use Rattle.boot_script.proofs.report_printing.MoverLineLines.print.Goals as goal

pub returns-clause-effect : goal.returns-clause-effect
unfolding mover_line
returns-clause-effect g c =
    let part2 = appends_word _ _ _ _ (codes " notes ") _ (appends_as _ _ _ _ c.in_ok-print_named.ensures.effect (ap (λ word. named word c.args.self.now.name) c.word_of_mover.ensures)) c.in_ok-print_number.ensures.effect in
    let part3 = appends_word _ _ _ _ (codes " taken ") _ part2 c.in_ok-print_number-2.ensures.effect in
    let part4 = appends_word _ _ _ _ (codes " put ") _ part3 c.in_ok-print_number-3.ensures.effect in
    let part5 = appends_word _ _ _ _ (codes " held ") _ part4 c.in_ok-print_number-4.ensures.effect in
    on_ok_weaker c.write_text.result (λ last. appends_join _ _ _ _ _ part5 last) c.write_text.ensures.bytes
