use Rattle.processor.specs.Points.{calls}
use Rattle.processor.specs.Sights.{views}
use Rattle.processor.proofs.Turning.{run_adds_up}
use Rattle.processor.proofs.laws.turns_add_up.Goals as goal

pub returns : goal.returns
returns g c = run_adds_up (views g.G.Watch.shown g.G.QueueGate-1.at_end g.G.QueueGate-2.at_end g.G.ChainGate.at_chain_end) (calls g.G.Gate.observes g.G.TurnGate.learns)
