use Rattle.quaject_core.proofs.Common.{◌≡◌, length, leb, map, ap, ◌∙◌, arith, length-map, list_any, thread}
use Rattle.quaject_core.proofs.elements.StoredElements.is_strange.Goals as goal

pub returns : goal.returns
returns c =
    let e : c.len.result ≡ length (map thread c.args.self.now.threads.items) = omega (arith, length-map c.args.self.now.threads.items thread, c.args.self.now.threads.ok) in
    c.has_past.ensures ∙ ap (λ n. list_any (leb n) c.args.items.now) e
