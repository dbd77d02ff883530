use Rattle.boot_picture.proofs.Common.{List, sym, subst, length, ◌<◌, All, Placed, IsWide}
use Rattle.boot_picture.proofs.Placing.{processors_of}
use Rattle.boot_picture.proofs.columns.place_all.Goals as goal

pub stretch-requires-clause-processors : goal.stretch-requires-clause-processors
stretch-requires-clause-processors c =
    let placed = c.in_ok-all.ensures in
    subst (λ (ps : List Placed). All (λ (p : Placed). p.ordered.processor < length c.args.tracks.now) ps) (sym c.deref_mut.ensures.value) (processors_of (length c.args.tracks.now) c.in_ok-all.all.items c.args.order.now placed.blocks c.requires.processors)

pub stretch-requires-clause-wide : goal.stretch-requires-clause-wide
stretch-requires-clause-wide c = subst (λ (ps : List Placed). All IsWide ps) (sym c.deref_mut.ensures.value) c.in_ok-all.ensures.wide
