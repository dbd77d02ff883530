use Rattle.std.proofs.Common.{◌<◌, ℕ, Some, arith, subst, sym, ap, ◌∙◌}
use Rattle.quajects.proofs.Common.{Option, Way}
use Rattle.quajects.proofs.Named.{got}
use Rattle.quajects.proofs.Routes.{key_more, not_here, not_default, got_below}
use Rattle.quajects.proofs.switching.Switch.way_of.Goals as goal
use Rattle.quajects.proofs.switching.Switch.way_of.Goals.{in-Some+else-way-item, in_default}

pub returns-then-way-item : goal.returns-then-way-item
returns-then-way-item c = let ways = c.args.self.now.ways in let below = subst (λ (z : ℕ). c.loop-i.i < z) (sym c.args.self.now.four) c.loop-i-test.true in
    (c.loop-i-test.true, (c.in-Some.way, got ways c.loop-i.i c.index-self-i.result below c.index-self-i.is ∙ ap (λ (z : Option Way). Some z) (c.index-self-i.is ∙ c.in-Some.is), sym c.if-way-item.true))

pub loop-i-preserved : goal.loop-i-preserved
loop-i-preserved c = let ways = c.args.self.now.ways in elim c.match-self-i.branch [
  | in-Some+else-way-item w ↦ key_more ways c.loop-i.i c.args.item c.loop-i.invariant (not_here ways c.loop-i.i c.args.item w.in-Some.way _ w.in-Some.is w.if-way-item.false)
  | in_default w ↦ key_more ways c.loop-i.i c.args.item c.loop-i.invariant (not_default ways c.loop-i.i c.args.item _ w.in_default.not-Some)
]

pub returns : goal.returns
returns c = λ i way e. let l = got_below c.args.self.now.ways i _ e in let f = c.args.self.now.four in let t = c.loop-i-test.false in c.loop-i.invariant i way (omega arith) e
