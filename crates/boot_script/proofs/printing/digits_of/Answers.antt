use Rattle.boot_script.specs.Printed.{hex_digits}
use Rattle.boot_script.proofs.printing.digits_of.Goals as goal

pub returns : goal.returns
unfolding hex_digits
returns c =
    let a = c.digit_of.ensures in
    let b = c.digit_of-2.ensures in
    let d = c.digit_of-3.ensures in
    let e = c.digit_of-4.ensures in
    rw (a, b, d, e)
