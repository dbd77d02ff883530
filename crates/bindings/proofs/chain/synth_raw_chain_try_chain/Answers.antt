use Rattle.bindings.proofs.Calls.{ap, Some, of_kind, chain_in, answered, at_value}
use Rattle.bindings.specs.ChainCalls.{IsChainCall}
use Rattle.bindings.proofs.chain.synth_raw_chain_try_chain.Goals as goal

pub returns-clause-chained : goal.returns-clause-chained
returns-clause-chained c = at_value (λ x. IsChainCall x c.args.note (Some c.try_chain.new.self) c.answer_of_noted.result) (ap (of_kind chain_in) c.in-Some.ensures.value)
    (answered c.try_chain.new.self c.try_chain.result c.try_chain.ensures c.answer_of_noted.ensures)
