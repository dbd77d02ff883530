use Rattle.bindings.proofs.Calls.{rules, sym, ◌∙◌, Batch, made_as}
use Rattle.bindings.specs.BatchHeld.{IsCapacity, IsNewBatch}
use Rattle.bindings.proofs.batch.synth_raw_batch_new_marked.Goals as goal

pub returns : goal.returns
returns c = let f = c.fill in let is_new = IsNewBatch c.args.places c.args.mark in
    made_as (λ x. Batch x) (IsCapacity c.args.places) is_new c.new-made.result c.args.batch.now f.new.handle f.result
    (search rules) (sym c.is_full.ensures ∙ c.if-is_full.false) c.if-not-is_capacity.ensures c.new-made.ensures f.ensures
