use Rattle.boot_script.proofs.Common.{◌≡◌, refl, sym, ap, ◌∙◌, true, false, Ok, Err, bytes_eq, if_kind}
use Rattle.boot_script.proofs.Drafts.NamesSoFar.{find_more, find_here, find_nowhere}
use Rattle.boot_script.proofs.declared_names.Names.find.Goals as goal

pub loop-named-preserved : goal.loop-named-preserved
loop-named-preserved c =
    let names = c.as_slice-named-items.result.now in
    let other : bytes_eq c.args.name.now c.named-item.result.name ≡ false = ap (bytes_eq c.args.name.now) (sym c.as_slice.ensures.bytes) ∙ (sym c.same_word.ensures ∙ c.if-same_word.false) in
    sym (find_more c.args.kind c.args.name.now names c.loop-named.named-index c.named-item.result c.loop-named-test.true (ap (λ n. bytes_eq c.args.name.now n.name) (sym c.named-item.is) ∙ other)) ∙ c.loop-named.invariant

pub returns-then-same_kind-clause-result : goal.returns-then-same_kind-clause-result
returns-then-same_kind-clause-result c =
    let names = c.as_slice-named-items.result.now in
    let same : bytes_eq c.args.name.now c.named-item.result.name ≡ true = ap (bytes_eq c.args.name.now) (sym c.as_slice.ensures.bytes) ∙ (sym c.same_word.ensures ∙ c.if-same_word.true) in
    let here = find_here c.args.kind c.args.name.now names c.loop-named.named-index c.named-item.result c.loop-named-test.true (ap (λ n. bytes_eq c.args.name.now n.name) (sym c.named-item.is) ∙ same) in
    let kind : if_kind c.args.kind c.named-item.result ≡ Ok c.named-item.result.number = rw (sym c.same_kind.ensures ∙ c.if-same_kind.true) refl in
    sym (sym c.loop-named.invariant ∙ (here ∙ (ap (if_kind c.args.kind) (sym c.named-item.is) ∙ kind)))

pub returns-else-same_kind-clause-result : goal.returns-else-same_kind-clause-result
returns-else-same_kind-clause-result c =
    let names = c.as_slice-named-items.result.now in
    let same : bytes_eq c.args.name.now c.named-item.result.name ≡ true = ap (bytes_eq c.args.name.now) (sym c.as_slice.ensures.bytes) ∙ (sym c.same_word.ensures ∙ c.if-same_word.true) in
    let here = find_here c.args.kind c.args.name.now names c.loop-named.named-index c.named-item.result c.loop-named-test.true (ap (λ n. bytes_eq c.args.name.now n.name) (sym c.named-item.is) ∙ same) in
    let kind : if_kind c.args.kind c.named-item.result ≡ Err _ = rw (sym c.same_kind.ensures ∙ c.if-same_kind.false) refl in
    sym (sym c.loop-named.invariant ∙ (here ∙ (ap (if_kind c.args.kind) (sym c.named-item.is) ∙ kind)))

pub returns-clause-result : goal.returns-clause-result
returns-clause-result c =
    sym (sym c.loop-named.invariant ∙ find_nowhere c.args.kind c.args.name.now c.as_slice-named-items.result.now c.loop-named.named-index c.loop-named-test.false)
