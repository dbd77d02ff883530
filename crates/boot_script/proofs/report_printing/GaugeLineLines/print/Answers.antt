use Rattle.boot_script.proofs.Common.{codes, on_ok_weaker}
use Rattle.boot_script.specs.Reports.{gauge_line}
use Rattle.boot_script.proofs.LineWords.KnownBytes.{appends_join, appends_word}
use Rattle.boot_script.proofs.report_printing.GaugeLineLines.print.Goals as goal

pub returns-clause-effect : goal.returns-clause-effect
unfolding gauge_line
returns-clause-effect g c =
    let part2 = appends_word _ _ _ _ (codes " ") _ c.in_ok-print_named.ensures.effect c.in_ok-print_number.ensures.effect in
    on_ok_weaker c.write_text.result (λ last. appends_join _ _ _ _ _ part2 last) c.write_text.ensures.bytes
