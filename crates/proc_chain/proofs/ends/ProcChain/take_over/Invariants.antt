use Rattle.proc_chain.proofs.Common.{emptied, nothing_did}
use Rattle.proc_chain.proofs.ends.ProcChain.take_over.Given as goal

abbrev pub ghosts-take_in : goal.ghosts-take_in
ghosts-take_in g a = record { view = emptied nothing_did a.seat.now.me.0 }
