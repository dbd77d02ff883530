use Rattle.bindings.proofs.Calls.{rules, sym, ◌∙◌, Chain, made_as}
use Rattle.bindings.specs.ChainHeld.{IsNewChain}
use Rattle.bindings.proofs.chain.synth_raw_chain_new_marked.Goals as goal

pub returns : goal.returns
returns c = let f = c.fill in let is_new = IsNewChain c.args.first c.args.mark in
    made_as (λ x. Chain x) (Unit {0}) is_new c.new-made.result c.args.chain.now f.new.handle f.result
    (search rules) (sym c.is_full.ensures ∙ c.if-is_full.false) tt c.new-made.ensures f.ensures
