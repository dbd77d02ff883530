use Rattle.boot_script.proofs.Common.{arith, codes, false, ◌≡◌, eqb, nat_tests, on_ok_weaker, alarms_line}
use Rattle.boot_script.proofs.LineWords.KnownBytes.{appends_join, appends_word}
use Rattle.boot_script.proofs.report_printing.AlarmCountsLines.print.Goals as goal

pub returns-clause-effect : goal.returns-clause-effect
unfolding alarms_line
returns-clause-effect g c =
    let some : eqb c.args.self.now.set 0 ≡ false = grind (arith, nat_tests) in
    let part2 = appends_word _ _ _ _ (codes " fired ") _ c.in_ok-print_number.ensures.effect c.in_ok-print_number-2.ensures.effect in
    let part3 = appends_word _ _ _ _ (codes " left ") _ part2 c.in_ok-print_number-3.ensures.effect in
    rw some (on_ok_weaker c.write_text.result (λ last. appends_join _ _ _ _ _ part3 last) c.write_text.ensures.bytes)
