use Rattle.bindings.proofs.Calls.{rules, inr, refl, sym, ap, ◌∙◌, Some, is_none, HeldIn, HeldOut}
use Rattle.bindings.proofs.line.synth_raw_line_new_marked.Goals as goal

pub returns : goal.returns
returns c = let e = c.in-Ok.ensures in let x : HeldIn = record { line = c.in-Ok.first; mark = c.args.mark } in
    let z : HeldOut = record { line = c.in-Ok.second; mark = c.args.mark } in
    let empty = is_none c.args.input.now.hidden.value (sym c.is_full.ensures ∙ c.if-is_full.false) in
    let other = is_none c.args.output.now.hidden.value (sym c.is_full-2.ensures ∙ c.if-is_full-2.false) in
    let first = c.put.ensures ∙ ap Some c.in-Ok-new.ensures.ok in
    let second = c.put-2.ensures ∙ ap Some c.in-Ok-new-2.ensures.ok in
    inr (inr (inr (refl, empty, other, search rules, x, z, first, second, e.pair, e.input, e.output, refl, refl)))
