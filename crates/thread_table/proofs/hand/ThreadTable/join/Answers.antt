use Rattle.thread_table.proofs.Common.{◌≡◌, ◌∙◌, sym, ap, subst, length, View, CountedDown}
use Rattle.thread_table.proofs.Hands.AfterSplits.{took_in}
use Rattle.thread_table.proofs.ClientHands.{join_effect, join_frame, join_owns, join_bound}
use Rattle.thread_table.proofs.hand.ThreadTable.join.Goals as goal

pub returns-clause-trace : goal.returns-clause-trace
returns-clause-trace c = let v : View = c.args.hand.now.seat.me.0 in let u : View = c.args.other.seat.me.0 in let w : View = c.count_down.new.seat.me.0 in
    let h = c.args.hand.now in let o = c.args.other in let a = c.union-hand.ensures.long in let b = c.union-hand-2.ensures.long in let held : length u.own.held ≡ length v.own.held = sym (ap length o.holding) ∙ (a.1 ∙ (sym a.0 ∙ ap length h.holding)) in let serves : length u.own.serves ≡ length v.own.serves = sym (ap length o.serving) ∙ (b.1 ∙ (sym b.0 ∙ ap length h.serving)) in
    took_in v u w _ c.args.hand.now.one c.args.other.one held serves (subst (λ (z : View). CountedDown z c.count_down.result w) (ap (λ z. z.0) c.take_in.ensures.joined) c.count_down.ensures.counted)

pub returns-clause-effect : goal.returns-clause-effect
returns-clause-effect c = let v : View = c.args.hand.now.seat.me.0 in let u : View = c.args.other.seat.me.0 in let n = c.or-hand.ensures.long in let long : length u.own.on ≡ length v.own.on = sym (ap length c.args.other.putting) ∙ (n.1 ∙ (sym n.0 ∙ ap length c.args.hand.now.putting)) in join_effect v u _ (returns-clause-trace c) long

pub returns-clause-frame : goal.returns-clause-frame
returns-clause-frame c = join_frame _ _ _ (returns-clause-trace c)

pub returns-clause-owns : goal.returns-clause-owns
returns-clause-owns c = join_owns _ _ _ (returns-clause-trace c)

pub returns-clause-steps : goal.returns-clause-steps
returns-clause-steps c = join_bound _ _ _ (returns-clause-trace c)
