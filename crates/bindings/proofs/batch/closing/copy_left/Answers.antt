use Rattle.bindings.proofs.Calls.{◌≡◌, ◌≤◌, ◌<◌, ◌∙◌, ◌+◌, ℕ, suc, refl, rules, subst, arith, length, take}
use Rattle.batch_queue.specs.Lefts.{items_left}
use Rattle.bindings.specs.BatchHeld.{PublishedOf}
use Rattle.bindings.proofs.Publishing.{copied_more, reach_more, reach_none, take_none}
use Rattle.bindings.proofs.batch.closing.copy_left.Goals as goal

pub copy_item-copied-requires : goal.copy_item-copied-requires
copy_item-copied-requires c = let l = c.loop-i in let few = l.invariant.few in let long = l.invariant.kept.1 in let room = c.requires in search rules

pub loop-i-init : goal.loop-i-init
loop-i-init c = record { copied = take_none c.args.out.now; kept = (refl, refl); few = let z : 0 ≤ 0 = omega arith in z; reach = reach_none c.args.left.now }

pub loop-i-preserved : goal.loop-i-preserved
loop-i-preserved c = let l = c.loop-i in let left = c.args.left.now in let h = reach_more left l.i l.past c.reach-past.result l.invariant.reach c.reach-past.ensures in
    let few = l.invariant.few in let long = l.invariant.kept.1 in let room = c.requires in
    let below : l.i < length (items_left left) = search rules in let fits : l.copied < length l.out = omega arith in
    let d = copied_more left l.i c.reach-past.result l.copied c.copy_item-copied.result c.args.out.now l.out c.copy_item-copied.new.out h fits l.invariant.copied l.invariant.kept c.copy_item-copied.ensures in
    let one : suc l.i ≡ l.i + 1 = omega arith in record {
      copied = subst (λ (z : ℕ). PublishedOf left z (take c.copy_item-copied.result c.copy_item-copied.new.out)) one d.0;
      kept = d.1;
      few = let e = d.2 in omega arith;
      reach = h;
    }
