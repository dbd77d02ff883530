use Rattle.boot_view.proofs.Fronts.{all_have}
use Rattle.boot_view.proofs.laws.pages_have_fronts.Goals as goal

pub returns : goal.returns
returns g c = λ clock from command read report booted came few.
    all_have g.C.TurnClock.says g.R.Witness.ran (g.B.BootTimer.read_by clock) from command.turns came.boot.run.booted.did.shared 0 came.recorders booted.gates.items came.boot.run.booted.logs few came.new came.boot.run.booted.did.reported
