use Rattle.proc_chain.proofs.Common.{rules}
use Rattle.proc_chain.proofs.Stepping.{notifies_gate}
use Rattle.proc_chain.proofs.running.swap_more.Goals as goal

pub swap-requires : goal.swap-requires
swap-requires g c = (search rules, search rules, notifies_gate _ _ _ _ _ _ _ _ c.requires.live.0 c.requires.live.1 c.requires.suits c.requires.makes)
