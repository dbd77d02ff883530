use Rattle.bindings.proofs.Calls.{rules, inl, inr, refl, sym, ap, subst, LineIn, LineOut, of_kind, line_in_in}
use Rattle.bindings.proofs.Calls.{line_out_in, unboxed, HeldIn, HeldOut}
use Rattle.bindings.specs.LineCalls.{ReportsLine}
use Rattle.bindings.specs.declared.line.SynthLineTotals.{SynthLineTotals}
use Rattle.bindings.proofs.line.synth_raw_line_finish.Goals as goal

pub returns-then-first-second : goal.returns-then-first-second
returns-then-first-second c = let one = c.in-Some.ensures.value in let two = c.in-Some-find.ensures.value in
    inr (inl (refl, c.in-Some.first.now, c.in-Some-find.second.now, ap (of_kind line_in_in) one, ap (of_kind line_out_in) two, sym one, sym two, refl, search rules))

pub returns : goal.returns
returns c = let e = c.finish-reported.ensures in let r = c.finish-reported.result in
    let reported : SynthLineTotals = record { sent = r.sent; received = r.received; left = r.left } in
    let x = c.in-Some.first.now in let z = c.in-Some-find.second.now in
    let one = unboxed line_in_in (LineIn x) refl c.take.ensures.taken c.into_inner.ensures c.unwrap-first.ensures in
    let two = unboxed line_out_in (LineOut z) refl c.take-2.ensures.taken c.into_inner-2.ensures c.unwrap-second.ensures in
    let all : ReportsLine c.unwrap-first.result c.unwrap-second.result reported =
    record { whole = e.whole; sent = e.sent; received = e.received; left = e.left; within = e.within } in
    let first = ap (of_kind line_in_in) c.in-Some.ensures.value in
    let second = ap (of_kind line_out_in) c.in-Some-find.ensures.value in
    let is = subst (λ (h : HeldIn). ReportsLine h z reported) one
    (subst (λ (h : HeldOut). ReportsLine c.unwrap-first.result h reported) two all) in
    inr (inr (refl, x, z, first, second, c.take.ensures.emptied, c.take-2.ensures.emptied, search rules, is))
