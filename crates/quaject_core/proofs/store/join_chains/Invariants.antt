use Rattle.quaject_core.proofs.Common.{◌≡◌, map, take, drop, ◌++◌, join_chain, chain}
use Rattle.quaject_core.proofs.store.join_chains.Given as goal

-- Those so far are joined, and the others are as they were.
abbrev pub invariant-loop-chain : goal.invariant-loop-chain
invariant-loop-chain l =
    map chain l.chain-items ≡ map (join_chain l.call l.other) (take l.chain-index (map chain l.fn.chains)) ++ drop l.chain-index (map chain l.fn.chains)
