use Rattle.quajects.proofs.Common.{◌≡◌, [], map, refl, ap, ◌∙◌, subst, sym, view_of, line_of, lines_put, lines_taken, KeysDiffer}
use Rattle.quajects.proofs.Routes.{given_keys, given_indexes, given_ends, each_new, rest_new, given_fit, end_at}
use Rattle.quajects.proofs.switching.Switch.new.Goals as goal

pub invariant_of-result : goal.invariant_of-result
invariant_of-result c =
    let given = c.ways_from.ensures.given in
    let taken : lines_taken (view_of c.new.result.end) ≡ [] = ap (λ end. lines_taken (view_of end)) c.new.ensures.1 ∙ ap (map line_of) c.requires.source.1 in
    let put : lines_put (view_of c.new-2.result.end) ≡ [] = ap (λ end. lines_put (view_of end)) c.new-2.ensures.1 ∙ ap (map line_of) c.requires.other.0 in
    record {
      four = c.ways_from.ensures.four;
      apart = subst KeysDiffer (sym (given_keys _ _ given)) c.requires.keys;
      each = each_new _ _ _ _ given taken c.new-3.ensures;
      rest = rest_new c.ways_from.result _ _ _ taken put c.new-3.ensures;
    }

pub returns-clause-new : goal.returns-clause-new
returns-clause-new c = let given = c.ways_from.ensures.given in record {
  from_is = c.new.ensures.0;
  source_is = c.new.ensures.1;
  to_is = c.new-2.ensures.0;
  other_is = c.new-2.ensures.1;
  keys_are = given_keys _ _ given;
  indexes_are = given_indexes _ _ given;
  ends_are = given_ends _ _ given;
  none_held = c.new-3.ensures;
  none_run = refl;
}

pub returns-clause-fits : goal.returns-clause-fits
returns-clause-fits c = λ world source other ways. (
  end_at world.small.items _ _ _ _ c.new.ensures.0 c.new.ensures.1 source,
  end_at world.small.items _ _ _ _ c.new-2.ensures.0 c.new-2.ensures.1 other,
  given_fit world.small.items c.args.ways c.ways_from.result c.ways_from.ensures.given ways,
)
