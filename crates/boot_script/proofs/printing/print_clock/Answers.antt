use Rattle.boot_script.proofs.Common.{◌≡◌, append_assoc, false, arith, eqb, nat_tests, clock_line}
use Rattle.boot_script.proofs.LineWords.KnownBytes.{then_appends}
use Rattle.boot_script.proofs.printing.print_clock.Goals as goal

pub returns-clause-effect : goal.returns-clause-effect
unfolding clock_line
returns-clause-effect g c =
    let some : eqb c.args.clock 0 ≡ false = grind (arith, nat_tests) in
    rw some (then_appends c.write_text.result _ _ _ _ _ _ c.in_ok-print_number.ensures.effect c.write_text.ensures.bytes (simp append_assoc))
