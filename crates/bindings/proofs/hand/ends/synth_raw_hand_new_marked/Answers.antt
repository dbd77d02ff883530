use Rattle.bindings.proofs.Calls.{rules, sym, ◌∙◌, ◌≤◌, Hand, made_as}
use Rattle.bindings.specs.HandHeld.{IsNewHand}
use Rattle.bindings.proofs.hand.ends.synth_raw_hand_new_marked.Goals as goal

pub returns : goal.returns
returns c = let f = c.fill in let is_new = IsNewHand c.args.first c.args.mark in
    made_as (λ x. Hand x) (c.args.first ≤ 4294967231) is_new c.new-made.result c.args.hand.now f.new.handle f.result
    (search rules) (sym c.is_full.ensures ∙ c.if-is_full.false) (search rules) c.new-made.ensures f.ensures
