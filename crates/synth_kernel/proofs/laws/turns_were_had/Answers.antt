use Rattle.processor.specs.Points.{calls}
use Rattle.synth_kernel.proofs.Answering.{had, had_plain}
use Rattle.synth_kernel.proofs.laws.turns_were_had.Goals as goal

pub returns : goal.returns
returns g c = record { gates = λ turns gates back ended plan closed logs. had g.R.Witness.ran g.R.Witness.shown (calls g.G.Gate.observes g.G.TurnGate.learns) turns gates back ended plan closed logs; plain = had_plain g.N.Witness.ran g.N.Witness.shown }
