use Rattle.thread_table.proofs.Common.{ℕ, List, Bool, arith, ◌≡◌, ◌+◌, ◌-◌, ◌∙◌, sym, ap, subst, View, SplitShare, IsNewEndWith, rest_without}
use Rattle.thread_table.specs.Sets.{marks}
use Rattle.thread_table.proofs.Lists.BitSets.{get_or-marks_any}
use Rattle.thread_table.proofs.Hands.AfterSplits.{divided, born}
use Rattle.thread_table.proofs.ClientHands.{split_effect, split_frame, split_owns, split_bound}
use Rattle.thread_table.proofs.hand.ThreadTable.split_share.Goals as goal

pub returns-clause-trace : goal.returns-clause-trace
returns-clause-trace c = let number : ℕ = c.args.processors in let mask : List Bool = marks 8 number in let is = get_or-marks_any 8 number c.ranges.processors.fits in let v : View = c.args.hand.now.seat.me.0 in let x : View = c.count_up.new.seat.me.0 in
    subst (SplitShare c.args.share number v) (sym (ap (λ z. z.0) c.split_share_off-seat.ensures.split.0)) (divided c.args.share number mask v x _ is c.count_up.ensures.counted)

pub returns-clause-born : goal.returns-clause-born
returns-clause-born c = let number : ℕ = c.args.processors in let mask : List Bool = marks 8 number in let is = get_or-marks_any 8 number c.ranges.processors.fits in let v : View = c.args.hand.now.seat.me.0 in let x : View = c.count_up.new.seat.me.0 in
    let left = ap (λ z. z.0) c.split_share_off-seat.ensures.split.0 in let right = ap (λ z. z.0) c.split_share_off-seat.ensures.split.1 in
    subst (λ (y : View). IsNewEndWith c.args.share number y c.split_share_off-seat.result.me.0) (sym left) (subst (IsNewEndWith c.args.share number (rest_without c.args.share mask x)) (sym right) (born c.args.share number mask x is))

pub returns-clause-effect : goal.returns-clause-effect
returns-clause-effect c = split_effect c.args.share c.args.processors _ _ _ (returns-clause-trace c) (returns-clause-born c)

pub returns-clause-frame : goal.returns-clause-frame
returns-clause-frame c = split_frame c.args.share c.args.processors _ _ _ (returns-clause-trace c) (returns-clause-born c)

pub returns-clause-owns : goal.returns-clause-owns
returns-clause-owns c = let k = c.requires.parts.1 in split_owns c.args.share c.args.processors _ _ _ (returns-clause-trace c) (returns-clause-born c) (omega arith)

pub returns-clause-steps : goal.returns-clause-steps
returns-clause-steps c = split_bound c.args.share c.args.processors _ _ _ (returns-clause-trace c) (returns-clause-born c)

pub invariant_of-hand-clause-bare : goal.invariant_of-hand-clause-bare
invariant_of-hand-clause-bare c = ap (λ z. z.1) c.split_share_off-seat.ensures.split.0 ∙ (c.count_up.ensures.queue.1 ∙ c.args.hand.now.bare)

pub invariant_of-hand-clause-one : goal.invariant_of-hand-clause-one
invariant_of-hand-clause-one c = let x : View = c.count_up.new.seat.me.0 in let two : x.member.ends ≡ c.args.hand.now.seat.me.0.member.ends + 1 = ap (λ (v : View). v.member.ends) c.count_up.ensures.counted.same in let one = c.args.hand.now.one in let left : x.member.ends - 1 ≡ 1 = omega arith in ap (λ z. z.0.member.ends) c.split_share_off-seat.ensures.split.0 ∙ left

pub invariant_of-hand-clause-none : goal.invariant_of-hand-clause-none
invariant_of-hand-clause-none c = ap (λ z. z.0.own.claimed) c.split_share_off-seat.ensures.split.0 ∙ (ap (λ (v : View). v.own.claimed) c.count_up.ensures.counted.same ∙ c.args.hand.now.none)

pub invariant_of-hand-clause-fresh : goal.invariant_of-hand-clause-fresh
invariant_of-hand-clause-fresh c = ap (λ z. z.0.own.fresh) c.split_share_off-seat.ensures.split.0 ∙ ap (λ (v : View). v.own.fresh) c.count_up.ensures.counted.same

pub invariant_of-hand-clause-holding : goal.invariant_of-hand-clause-holding
invariant_of-hand-clause-holding c = c.args.hand.now.holding ∙ sym (ap (λ z. z.0.own.held) c.split_share_off-seat.ensures.split.0 ∙ ap (λ (v : View). v.own.held) c.count_up.ensures.counted.same)

pub invariant_of-hand-clause-putting : goal.invariant_of-hand-clause-putting
invariant_of-hand-clause-putting c = c.args.hand.now.putting ∙ sym (ap (λ z. z.0.own.on) c.split_share_off-seat.ensures.split.0 ∙ ap (λ (v : View). v.own.on) c.count_up.ensures.counted.same)
