use Rattle.std.proofs.KnownBytes.{Appends-trans}
use Rattle.svg.proofs.Trees.{picture_joined, then_appends}
use Rattle.svg.proofs.printing.print_picture.Goals as goal

pub returns : goal.returns
returns g c =
    let shown-title = c.as_slice.ensures in
    let shown-shapes = c.as_slice-2.ensures in
    let sized = Appends-trans _ _ _ _ _ c.in_ok-write.ensures.bytes c.in_ok-print_size.ensures in
    let opened = Appends-trans _ _ _ _ _ sized c.in_ok-write-2.ensures.bytes in
    let titled = Appends-trans _ _ _ _ _ opened c.in_ok-print_title.ensures in
    let shapes = Appends-trans _ _ _ _ _ titled c.in_ok-print_shapes.ensures in
    then_appends c.writeln.result _ _ _ _ _ _ shapes c.writeln.ensures.bytes (rw (shown-title, shown-shapes) (picture_joined c.args.picture.now))
