use Rattle.quaject_core.proofs.Common.{◌≡◌, length, get_or, ap, ◌∙◌, arith, join_hold, Hold}
use Rattle.quaject_core.proofs.Lists.Mapped.{mapped_set, mapped_all, length-mapped, written_back}
use Rattle.quaject_core.proofs.holding.HeldList.join.Goals as goal

pub loop-hold-preserved : goal.loop-hold-preserved
loop-hold-preserved c =
    let old : Hold = get_or c.loop-hold.hold-items c.loop-hold.hold-index c.hold-item.result in
    mapped_set (join_hold c.args.call c.args.other) c.loop-hold.hold-index c.args.self.now.holds.items c.loop-hold.hold-items _ c.hold-item.result c.loop-hold.invariant
    (ap (λ n. let h : Hold = record { call = n; element = old.element } in h) c.renamed-hold.ensures) (omega arith)

pub returns : goal.returns
returns c =
    let f = join_hold c.args.call c.args.other in
    let whole : length c.loop-hold.hold-items ≡ length c.args.self.now.holds.items = ap length c.loop-hold.invariant ∙ length-mapped f c.loop-hold.hold-index c.args.self.now.holds.items in
    written_back c.args.self.now.holds.len c.loop-hold.hold-items c.args.self.now.holds.items _
    (c.loop-hold.invariant ∙ mapped_all f c.loop-hold.hold-index c.args.self.now.holds.items (omega arith)) whole (omega (arith, c.args.self.now.holds.ok))
