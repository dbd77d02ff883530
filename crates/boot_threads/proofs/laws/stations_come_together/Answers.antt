use Rattle.boot_threads.proofs.Common.{List, subst, AllZip, Back, GaveBack, HasWorked, calls}
use Rattle.boot_threads.proofs.Returning.{posts_first}
use Rattle.boot_threads.proofs.Reunion.{came_together}
use Rattle.boot_threads.proofs.laws.stations_come_together.Goals as goal

pub returns : goal.returns
returns g c = λ shared turns gates old new last posts works devices backs came posted serving gave are joined none free.
    let ran = g.R.Witness.ran in
    let refused = g.R.Witness.refused in
    came_together g.row.G.Denot ran refused (calls g.G.Gate.observes g.G.TurnGate.learns) shared turns gates old new last posts came posted
    (subst (λ (z : List (Back g.row.G.Denot)). AllZip (GaveBack ran refused (HasWorked (calls g.G.Gate.observes g.G.TurnGate.learns)) shared) posts z) are
    (posts_first (GaveBack ran refused (HasWorked (calls g.G.Gate.observes g.G.TurnGate.learns)) shared) shared.plan.ttys devices posts works backs serving gave))
    joined none free
