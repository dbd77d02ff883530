use Rattle.quaject_core.proofs.Common.{◌≡◌, length, map, refl, sym, ap, ◌∙◌, arith, map-set, length-map, join_queue, queue}
use Rattle.std.proofs.Math.ListN.{get_or-map}
use Rattle.quaject_core.proofs.Lists.Mapped.{mapped_set, mapped_all, written_back}
use Rattle.quaject_core.proofs.rings.join.Goals as goal

pub loop-ring-preserved : goal.loop-ring-preserved
loop-ring-preserved c =
    let f = join_queue c.args.call c.args.other in
    let items = c.loop-ring.ring-items in
    let i = c.loop-ring.ring-index in
    let old = c.args.rings.now.items in
    let same : length items ≡ length old = c.loop-ring.auto.ring-items ∙ ap length c.deref_mut-ring-items.ensures.value in
    map-set queue items i c.join.new.self
    ∙ mapped_set f i (map queue old) (map queue items) (queue c.join.new.self) (queue c.ring-item.result) c.loop-ring.invariant
    (c.join.ensures ∙ ap f (sym (get_or-map queue items i c.ring-item.result))) (omega (arith, length-map old queue))

pub returns-clause-what : goal.returns-clause-what
returns-clause-what c =
    let f = join_queue c.args.call c.args.other in
    let items = c.loop-ring.ring-items in
    let old = c.args.rings.now.items in
    let same : length items ≡ length old = c.loop-ring.auto.ring-items ∙ ap length c.deref_mut-ring-items.ensures.value in
    ap (map queue) (written_back c.args.rings.now.len items old items refl same (omega (arith, c.args.rings.now.ok)))
    ∙ (c.loop-ring.invariant ∙ mapped_all f c.loop-ring.ring-index (map queue old) (omega (arith, length-map old queue)))
