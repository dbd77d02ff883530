use Rattle.boot_script.proofs.Common.{◌∙◌, ◌+◌, sym, ap, count_by_more_yes, count_by_more_no, same_kind}
use Rattle.boot_script.proofs.declared_names.Names.count.Goals as goal
use Rattle.boot_script.proofs.declared_names.Names.count.Goals.{then-same_kind, else-same_kind}

pub loop-named-preserved : goal.loop-named-preserved
loop-named-preserved c =
    let names = c.as_slice-named-items.result.now in
    let i = c.loop-named.named-index in
    let kind = ap (λ n. same_kind n.kind c.args.kind) (sym c.named-item.is) ∙ sym c.same_kind.ensures in
    elim c.if-same_kind.branch [
      | then-same_kind w ↦ w.count-is ∙ (ap (λ n. n + 1) c.loop-named.invariant ∙ sym (count_by_more_yes (λ n. same_kind n.kind c.args.kind) names i c.named-item.result c.loop-named-test.true (kind ∙ w.if-same_kind.true)))
      | else-same_kind w ↦ w.count-is ∙ (c.loop-named.invariant ∙ sym (count_by_more_no (λ n. same_kind n.kind c.args.kind) names i c.named-item.result c.loop-named-test.true (kind ∙ w.if-same_kind.false)))
    ]
