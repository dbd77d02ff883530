use Rattle.processor.specs.Points.{calls}
use Rattle.boot_threads.proofs.Returning.{device_back}
use Rattle.boot_threads.proofs.laws.devices_come_back.Goals as goal

pub returns : goal.returns
returns g c = device_back g.R.Witness.ran g.R.Witness.refused (calls g.G.Gate.observes g.G.TurnGate.learns)
