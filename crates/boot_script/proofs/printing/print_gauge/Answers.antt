use Rattle.boot_script.proofs.Common.{◌≡◌, append_assoc, false, arith, eqb, nat_tests, gauge_line}
use Rattle.boot_script.proofs.LineWords.KnownBytes.{appends_join, then_appends}
use Rattle.boot_script.proofs.printing.print_gauge.Goals as goal

pub returns-clause-effect : goal.returns-clause-effect
unfolding gauge_line
returns-clause-effect g c =
    let some : eqb c.args.value 0 ≡ false = grind (arith, nat_tests) in
    let part2 = appends_join _ _ _ _ _ c.in_ok-print_number.ensures.effect c.in_ok-print_number-2.ensures.effect in
    rw some (then_appends c.write_text.result _ _ _ _ _ _ part2 c.write_text.ensures.bytes (simp append_assoc))
