use Rattle.proc_chain.proofs.Common.{rules}
use Rattle.proc_chain.proofs.Stepping.{leaves_gate}
use Rattle.proc_chain.proofs.running.exchange_gate.Goals as goal

pub compare_exchange-requires : goal.compare_exchange-requires
compare_exchange-requires g c = (search rules, search rules, leaves_gate _ _ _ _ _ _ c.requires.saw c.requires.runner)
