use Rattle.synth_kernel.proofs.Common.{arith, [], ◌∷◌, ◌++◌, length, ap, subst, sym, ◌∙◌, map-append, into_iter_items, IsLine, AllThree, tty_of, TotalsAre, rules, drawn_more}
use Rattle.synth_kernel.proofs.Placing.{zip_head, zip_tail, zip_long}
use Rattle.synth_kernel.proofs.gathering.finish_all.Goals as goal

pub loop-one-init : goal.loop-one-init
loop-one-init c = record {
  drawn = record {
    used = [];
    first = c.into_iter-one-iterator.ensures.into_iter_gives.0;
    second = c.into_iter-inputs.ensures.rest;
    each = subst (AllThree TotalsAre [] []) (sym c.requires.reported.0) tt;
  };
  lines = search rules;
  ttys = search rules;
  tty_room = search rules;
  reported_room = search rules;
  left = search rules;
  rest = search rules;
}

pub unreachable-requires : goal.unreachable-requires
unreachable-requires c = let v = c.loop-one.invariant in
    let long = zip_long (λ one input. IsLine input one.line) (into_iter_items c.loop-one.one-iterator) (into_iter_items c.loop-one.inputs) v.lines in
    let none = c.in_default.ensures.cases.0 in let some = ap length c.in-Some.ensures.steps.0 in let rest = v.rest in absurd (omega arith)

pub finish_one-tty-requires : goal.finish_one-tty-requires
finish_one-tty-requires c = let v = c.loop-one.invariant in
    zip_head (λ one input. IsLine input one.line) (into_iter_items c.loop-one.one-iterator) (into_iter_items c.loop-one.inputs) c.in-Some.one c.in-Some-next.input _ _ v.lines c.in-Some.ensures.steps.0 c.in-Some-next.ensures.items

pub loop-one-preserved : goal.loop-one-preserved
loop-one-preserved c = let v = c.loop-one.invariant in record {
  drawn = drawn_more TotalsAre _ _ _ _ _ _ c.in-Some.one _ c.in-Some-next.input _ c.finish_one-tty.result.1 _ v.drawn c.in-Some.ensures.steps.0 c.in-Some-next.ensures.items c.push_reserved-in-loop-one.ensures.items
      c.finish_one-tty.ensures.reported;
  lines = zip_tail (λ one input. IsLine input one.line) (into_iter_items c.loop-one.one-iterator) (into_iter_items c.loop-one.inputs) c.in-Some.one c.in-Some-next.input _ _ v.lines c.in-Some.ensures.steps.0 c.in-Some-next.ensures.items;
  ttys = c.push_reserved.ensures.items ∙ ((λ i. v.ttys i ++ c.finish_one-tty.ensures.tty i ∷ []) ∙ sym (map-append tty_of c.loop-one.yielded (c.in-Some.one ∷ [])));
  tty_room = let was = v.tty_room in let put = c.push_reserved.ensures.len in let same = c.push_reserved.ensures.capacity in let gone = c.in-Some.ensures.steps.1 in let left = v.left in let short = ap length c.in-Some.ensures.steps.0 in omega arith;
  reported_room = let was = v.reported_room in let put = c.push_reserved-in-loop-one.ensures.len in let same = c.push_reserved-in-loop-one.ensures.capacity in let gone = c.in-Some.ensures.steps.1 in let left = v.left in let short = ap length c.in-Some.ensures.steps.0 in omega arith;
  left = let was = v.left in let gone = c.in-Some.ensures.steps.1 in let short = ap length c.in-Some.ensures.steps.0 in omega arith;
  rest = let was = v.rest in let gone = c.in-Some-next.ensures.len in let short = ap length c.in-Some-next.ensures.items in omega arith;
}
