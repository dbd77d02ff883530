use Rattle.std.proofs.Common.{append_assoc, append-nil}
use Rattle.std.proofs.KnownBytes.{Appends-trans}
use Rattle.svg.proofs.Trees.{then_appends}
use Rattle.svg.proofs.printing.print_size.Goals as goal

pub returns : goal.returns
returns g c =
    let width = Appends-trans _ _ _ _ _ c.in_ok-print_word.ensures c.in_ok-print_number.ensures in
    let height = Appends-trans _ _ _ _ _ width c.in_ok-print_number-2.ensures in
    let family = Appends-trans _ _ _ _ _ height c.in_ok-print_word-2.ensures in
    then_appends c.print_number-3.result _ _ _ _ _ _ family c.print_number-3.ensures (simp (append_assoc, append-nil))
