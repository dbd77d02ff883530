use Rattle.proc_chain.proofs.Common.{suits, makes}
use Rattle.proc_chain.proofs.ends.ProcChain.try_chain.Given as goal

abbrev pub ghosts-exchange_head : goal.ghosts-exchange_head
ghosts-exchange_head g a = record { note = a.note }

abbrev pub ghosts-swap_more : goal.ghosts-swap_more
ghosts-swap_more g a = record { made = makes g.Q.Quaject.made_by a.words.now.key.pact; suits = suits g.Q.Quaject.fits a.words.now.key.pact }
