use Rattle.proc_chain.proofs.Common.{suits, makes}
use Rattle.proc_chain.proofs.Rounds.{InRounds}
use Rattle.proc_chain.proofs.serve.serve_seat.Given as goal

abbrev pub invariant-loop-used : goal.invariant-loop-used
invariant-loop-used g l = InRounds (makes g.Q.Quaject.made_by l.words.key.pact) (suits g.Q.Quaject.fits l.words.key.pact) l.fn.seat l.seat l.used l.ran
