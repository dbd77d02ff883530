use Rattle.boot_objects.proofs.Common.{◌≡◌, ◌+◌, ◌++◌, List, [], map, refl, ap, subst, ◌∙◌, arith, flat_map, QueueEnd, view_of, line_of, lines_put, ClaimQueue, IsEndAt, puts_of, at_one, end_share, end_shuts, givens_share, lines_taken}
use Rattle.boot_objects.specs.Stocks.{shares}
use Rattle.boot_objects.proofs.Dealing.{gave_both}
use Rattle.boot_objects.proofs.Ways.{posts_given, none_given, open_given}
use Rattle.boot_objects.proofs.movers.make_switch.Goals as goal

pub returns : goal.returns
returns c =
    let a = c.split_at-source in let b = c.split_at-rest in let d = c.give_ways-given in let n = c.new.ensures.new in
    let one = at_one 0 c.args.from (end_share a.result) in let two = at_one 0 c.args.other (end_share b.result) in
    let first = shares c.args.small.now.items in let second = shares a.new.stock.items in let third = shares b.new.stock.items in let last = shares d.new.small.items in
    let both = gave_both 1 1 2 one two (λ q. one q + two q) first second third (omega arith) (λ q. refl) a.ensures.gave b.ensures.gave in
    let taken : lines_taken (view_of c.new.result.source.end) ≡ [] = ap (λ (z : QueueEnd 64). lines_taken (view_of z)) n.source_is ∙ ap (map line_of) a.ensures.unused.1 in
    let put : lines_put (view_of c.new.result.other.end) ≡ [] = ap (λ (z : QueueEnd 64). lines_put (view_of z)) n.other_is ∙ ap (map line_of) b.ensures.unused.0 in
    let puts : flat_map puts_of c.new.result.ways ≡ [] = none_given c.new.result.ways d.result n.ends_are d.ensures.unused in record {
      stock = d.ensures.stock;
      kind = record { few = c.requires.few; from_is = n.from_is; other_is = n.to_is; keys_are = n.keys_are ∙ d.ensures.keys; indexes_are = n.indexes_are ∙ d.ensures.indexes };
      ready = record {
        fits = c.new.ensures.fits c.args.queues.now (subst (λ (z : List (ClaimQueue 64)). IsEndAt z c.args.from a.result) c.as_slice.ensures.value a.ensures.its)
            (subst (λ (z : List (ClaimQueue 64)). IsEndAt z c.args.other b.result) c.as_slice-2.ensures.value b.ensures.its) d.ensures.fit;
        none_taken = taken;
        none_put = λ i. put i ++ puts i;
        none_shut = (
          ap (λ (z : QueueEnd 64). end_shuts z) n.source_is ∙ a.ensures.shuts,
          (ap (λ (z : QueueEnd 64). end_shuts z) n.other_is ∙ b.ensures.shuts, open_given c.new.result.ways d.result n.ends_are d.ensures.none_shut),
        );
        none_held = n.none_held;
        none_run = n.none_run;
      };
      gave = gave_both 2 4 6 (λ q. one q + two q) (givens_share d.result) _ first third last (omega arith)
          (λ q. let e = posts_given q c.new.result.ways d.result n.indexes_are n.ends_are in
          let x : at_one 0 c.new.result.source.index (end_share c.new.result.source.end) q ≡ one q = λ i. at_one 0 (n.from_is i) (end_share (n.source_is i)) q in
          let y : at_one 0 c.new.result.other.index (end_share c.new.result.other.end) q ≡ two q = λ i. at_one 0 (n.to_is i) (end_share (n.other_is i)) q in
          omega (arith, e, x, y)) both d.ensures.gave;
    }
