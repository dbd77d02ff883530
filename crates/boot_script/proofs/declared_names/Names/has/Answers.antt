use Rattle.boot_script.proofs.Common.{◌≡◌, sym, ap, ◌∙◌, true, false, bytes_eq}
use Rattle.boot_script.proofs.Drafts.NamesSoFar.{has_more, has_here, has_nowhere}
use Rattle.boot_script.proofs.declared_names.Names.has.Goals as goal

pub loop-named-preserved : goal.loop-named-preserved
loop-named-preserved c =
    let names = c.as_slice-named-items.result.now in
    let other : bytes_eq c.args.name.now c.named-item.result.name ≡ false = ap (bytes_eq c.args.name.now) (sym c.as_slice.ensures.bytes) ∙ (sym c.same_word.ensures ∙ c.if-same_word.false) in
    sym (has_more c.args.name.now names c.loop-named.named-index c.named-item.result c.loop-named-test.true (ap (λ n. bytes_eq c.args.name.now n.name) (sym c.named-item.is) ∙ other)) ∙ c.loop-named.invariant

pub returns-then-same_word : goal.returns-then-same_word
returns-then-same_word c =
    let names = c.as_slice-named-items.result.now in
    let same : bytes_eq c.args.name.now c.named-item.result.name ≡ true = ap (bytes_eq c.args.name.now) (sym c.as_slice.ensures.bytes) ∙ (sym c.same_word.ensures ∙ c.if-same_word.true) in
    sym (sym c.loop-named.invariant ∙ has_here c.args.name.now names c.loop-named.named-index c.named-item.result c.loop-named-test.true (ap (λ n. bytes_eq c.args.name.now n.name) (sym c.named-item.is) ∙ same))

pub returns : goal.returns
returns c = sym (sym c.loop-named.invariant ∙ has_nowhere c.args.name.now c.as_slice-named-items.result.now c.loop-named.named-index c.loop-named-test.false)
