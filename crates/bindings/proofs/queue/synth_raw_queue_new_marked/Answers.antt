use Rattle.bindings.proofs.Calls.{rules, sym, ◌∙◌, Queue, made_as}
use Rattle.bindings.specs.QueueHeld.{IsSize, IsNewHeld}
use Rattle.bindings.proofs.queue.synth_raw_queue_new_marked.Goals as goal

pub returns : goal.returns
returns c = let f = c.fill in let is_new = IsNewHeld c.args.places c.args.first c.args.mark in
    made_as (λ x. Queue x) (IsSize c.args.places) is_new c.new-made.result c.args.queue.now f.new.handle f.result
    (search rules) (sym c.is_full.ensures ∙ c.if-is_full.false) c.if-not-is_size.ensures c.new-made.ensures f.ensures
