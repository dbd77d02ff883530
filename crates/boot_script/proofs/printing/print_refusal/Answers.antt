use Rattle.boot_script.proofs.Common.{ap, codes, ◌++◌, ◌∙◌, on_ok_weaker, decimal, refused_text}
use Rattle.boot_script.proofs.LineWords.KnownBytes.{appends_join, appends_word, appends_as}
use Rattle.boot_script.proofs.printing.print_refusal.Goals as goal

pub returns-clause-effect : goal.returns-clause-effect
unfolding refused_text
returns-clause-effect g c =
    let number = appends_as _ _ _ _ c.in_ok-print_number-2.ensures.effect (ap (λ n. codes " " ++ decimal n) c.number_of-number.ensures) in
    let part2 = appends_word _ _ _ _ (codes " ") _ c.in_ok-print_number.ensures.effect number in
    let part3 = appends_join _ _ _ _ _ part2 c.in_ok-write_text.ensures.bytes in
    let part4 = appends_join _ _ _ _ _ part3 (appends_as _ _ _ _ c.in_ok-write_text-2.ensures.bytes (c.as_bytes.ensures.value ∙ c.refusal_word.ensures)) in
    on_ok_weaker c.write_text-3.result (λ last. appends_join _ _ _ _ _ part4 last) c.write_text-3.ensures.bytes
