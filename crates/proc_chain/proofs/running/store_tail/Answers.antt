use Rattle.proc_chain.proofs.Common.{rules, ap, ◌+◌, ℕ}
use Rattle.proc_chain.proofs.Stepping.{takes_note}
use Rattle.proc_chain.proofs.running.store_tail.Goals as goal

pub store-requires : goal.store-requires
store-requires g c = (search rules, search rules, takes_note _ _ _ _ _ _ _ c.requires.runner.runner c.requires.runner.live c.requires.raised (ap (λ (z : ℕ). z + 1) c.requires.tail.0))
