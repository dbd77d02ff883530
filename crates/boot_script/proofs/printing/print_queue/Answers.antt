use Rattle.boot_script.proofs.Common.{codes, ◌∙◌, on_ok_weaker, queue_line}
use Rattle.boot_script.proofs.LineWords.KnownBytes.{appends_join, appends_word, appends_as}
use Rattle.boot_script.proofs.printing.print_queue.Goals as goal

pub returns-clause-effect : goal.returns-clause-effect
unfolding queue_line
returns-clause-effect g c =
    let part2 = appends_word _ _ _ _ (codes " capacity ") _ c.in_ok-print_number.ensures.effect c.in_ok-print_number-2.ensures.effect in
    let part3 = appends_word _ _ _ _ (codes " runs ") _ part2 c.in_ok-print_number-3.ensures.effect in
    let part4 = appends_word _ _ _ _ (codes " put ") _ part3 c.in_ok-print_number-4.ensures.effect in
    let part5 = appends_word _ _ _ _ (codes " taken ") _ part4 c.in_ok-print_number-5.ensures.effect in
    let part6 = appends_word _ _ _ _ (codes " left ") _ part5 c.in_ok-print_number-6.ensures.effect in
    let part7 = appends_word _ _ _ _ (codes " raised ") _ part6 c.in_ok-print_number-7.ensures.effect in
    let part8 = appends_join _ _ _ _ _ part7 (appends_as _ _ _ _ c.in_ok-write_text.ensures.bytes (c.as_bytes.ensures.value ∙ c.word_where-shut.ensures)) in
    on_ok_weaker c.write_text-2.result (λ last. appends_join _ _ _ _ _ part8 last) c.write_text-2.ensures.bytes
