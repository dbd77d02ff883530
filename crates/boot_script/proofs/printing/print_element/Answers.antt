use Rattle.boot_script.proofs.Common.{codes, ◌∙◌, on_ok_weaker, element_words}
use Rattle.boot_script.proofs.LineWords.KnownBytes.{appends_join, appends_word, appends_as}
use Rattle.boot_script.proofs.printing.print_element.Goals as goal

pub returns-clause-effect : goal.returns-clause-effect
unfolding element_words
returns-clause-effect g c =
    let part2 = appends_join _ _ _ _ _ c.in_ok-print_number.ensures.effect c.in_ok-write_text.ensures.bytes in
    let part3 = appends_join _ _ _ _ _ part2 c.in_ok-print_place.ensures.effect in
    let part4 = appends_word _ _ _ _ (codes " done ") _ part3 c.in_ok-print_number-2.ensures.effect in
    let part5 = appends_join _ _ _ _ _ part4 c.in_ok-write_text-2.ensures.bytes in
    let part6 = appends_join _ _ _ _ _ part5 (appends_as _ _ _ _ c.in_ok-write_text-3.ensures.bytes (c.as_slice.ensures ∙ c.digits_of.ensures)) in
    let part7 = appends_join _ _ _ _ _ part6 (appends_as _ _ _ _ c.in_ok-write_text-4.ensures.bytes (c.as_bytes.ensures.value ∙ c.word_where-stop.ensures)) in
    on_ok_weaker c.write_text-5.result (λ last. appends_join _ _ _ _ _ part7 last) c.write_text-5.ensures.bytes
