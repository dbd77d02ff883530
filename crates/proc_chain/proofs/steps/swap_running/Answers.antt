use Rattle.proc_chain.proofs.Common.{rules}
use Rattle.proc_chain.proofs.Stepping.{rounds_gate}
use Rattle.proc_chain.proofs.steps.swap_running.Goals as goal

pub swap-requires : goal.swap-requires
swap-requires g c = (search rules, search rules, rounds_gate _ _ _ _ _ _ c.requires.runner.runner c.requires.runner.live)
