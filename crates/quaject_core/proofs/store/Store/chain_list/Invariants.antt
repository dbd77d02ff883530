use Rattle.quaject_core.proofs.Common.{◌≡◌, map, take, chain_status, chain}
use Rattle.quaject_core.proofs.store.Store.chain_list.Given as goal

-- The numbers so far.
abbrev pub invariant-loop-chain : goal.invariant-loop-chain
invariant-loop-chain l = l.chains.items ≡ map (λ stored. chain_status (chain stored)) (take l.chain-index l.self.chains.items)
