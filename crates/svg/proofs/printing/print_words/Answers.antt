use Rattle.std.proofs.Common.{append_assoc, append-nil}
use Rattle.std.proofs.KnownBytes.{Appends-trans}
use Rattle.svg.proofs.Trees.{then_appends}
use Rattle.svg.specs.Forests.{element_text}
use Rattle.svg.proofs.printing.print_words.Goals as goal

pub returns : goal.returns
unfolding element_text
returns g c =
    let x = Appends-trans _ _ _ _ _ c.in_ok-write.ensures.bytes c.in_ok-print_number.ensures in
    let y = Appends-trans _ _ _ _ _ x c.in_ok-print_number-2.ensures in
    let anchor = Appends-trans _ _ _ _ _ y c.in_ok-print_anchor.ensures in
    let ink = Appends-trans _ _ _ _ _ anchor c.in_ok-print_colour.ensures in
    let opened = Appends-trans _ _ _ _ _ ink c.in_ok-write-2.ensures.bytes in
    let text = Appends-trans _ _ _ _ _ opened c.in_ok-print_text.ensures in
    then_appends c.writeln.result _ _ _ _ _ _ text c.writeln.ensures.bytes (simp (append_assoc, append-nil))
