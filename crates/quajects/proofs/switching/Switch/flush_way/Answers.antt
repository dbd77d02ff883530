use Rattle.std.proofs.Common.{◌≡◌, ℕ, List, Some, length-set, rules, ap, ◌∙◌, ◌++◌, ◌∷◌, [], if◌then◌else◌, Bool}
use Rattle.quajects.proofs.Common.{slice_get, view_of, Way, lines_put}
use Rattle.quajects.proofs.Routes.{apart_after, each_refused, each_put, rest_same, rest_gone, keys_same, posts_same, way_read, fits_way, fit_after, tried_as}
use Rattle.quajects.proofs.switching.Switch.flush_way.Goals as goal

pub invariant_of-self-then-not-try_line : goal.invariant_of-self-then-not-try_line
invariant_of-self-then-not-try_line c = let s = c.args.self.now in let way = c.in-Some.way in let known = c.requires.chosen in
    let is : known.0 ≡ way = way_read s.ways c.args.i known.0 way _ known.1 c.in-Some.is in
    let at : slice_get s.ways c.args.i ≡ Some (Some way) = known.1 ∙ ap (λ (z : Way). Some (Some z)) is in
    let same : lines_put (view_of c.try_line.new.self.end) ≡ lines_put (view_of way.outlet.end)
    = c.try_line.ensures.effect ∙ ap (λ (z : Bool). if z then lines_put (view_of way.outlet.end) ++ c.as_slice.result.now ∷ [] else lines_put (view_of way.outlet.end)) c.if-not-try_line.true in
    record {
      four = length-set s.ways c.args.i _ ∙ s.four;
      apart = apart_after s.ways c.args.i way _ at s.apart;
      each = each_refused s.ways c.args.i way _ _ _ at same s.each;
      rest = rest_same s.ways c.args.i way _ _ _ _ at s.rest;
    }

pub invariant_of-self-2 : goal.invariant_of-self-2
invariant_of-self-2 c = let s = c.args.self.now in let way = c.in-Some.way in let known = c.requires.chosen in
    let is : known.0 ≡ way = way_read s.ways c.args.i known.0 way _ known.1 c.in-Some.is in
    let at : slice_get s.ways c.args.i ≡ Some (Some way) = known.1 ∙ ap (λ (z : Way). Some (Some z)) is in
    let first = known.2 ∙ ap (λ (z : Way). z.key) is in
    let more : lines_put (view_of c.try_line.new.self.end) ≡ lines_put (view_of way.outlet.end) ++ s.held.items ∷ []
    = c.try_line.ensures.effect ∙ ap (λ (z : Bool). if z then lines_put (view_of way.outlet.end) ++ c.as_slice.result.now ∷ [] else lines_put (view_of way.outlet.end)) c.if-not-try_line.false
    ∙ ap (λ (z : List ℕ). lines_put (view_of way.outlet.end) ++ z ∷ []) c.as_slice.ensures.value in
    record {
      four = length-set s.ways c.args.i _ ∙ s.four;
      apart = apart_after s.ways c.args.i way _ at s.apart;
      each = each_put s.ways c.args.i way _ _ _ _ at s.apart c.requires.held first c.clear.ensures more s.each;
      rest = rest_gone s.ways c.args.i way _ _ _ _ _ at first c.clear.ensures s.rest;
    }

pub try_line-requires : goal.try_line-requires
try_line-requires c = (search rules, (search rules, fits_way c.args.queues.now c.args.self.now.ways c.args.i c.requires.chosen.0 c.in-Some.way _ c.requires.fit c.requires.chosen.1 c.in-Some.is))

pub returns-then-not-try_line-clause-tried : goal.returns-then-not-try_line-clause-tried
returns-then-not-try_line-clause-tried c = let k = c.requires.chosen in tried_as c.args.self.now.ways c.args.i k.0 c.in-Some.way _ _ _ _ _ _ k.1 k.2 c.in-Some.is c.as_slice.ensures.value c.if-not-try_line.true c.try_line.ensures.handle c.try_line.ensures.tried

pub returns-clause-tried : goal.returns-clause-tried
returns-clause-tried c = let k = c.requires.chosen in tried_as c.args.self.now.ways c.args.i k.0 c.in-Some.way _ _ _ _ _ _ k.1 k.2 c.in-Some.is c.as_slice.ensures.value c.if-not-try_line.false c.try_line.ensures.handle c.try_line.ensures.tried

pub returns-clause-fit : goal.returns-clause-fit
returns-clause-fit c = fit_after c.args.queues.now c.args.self.now.ways c.args.i c.in-Some.way _ c.requires.fit c.try_line.ensures.at

pub returns-then-not-try_line-clause-posts : goal.returns-then-not-try_line-clause-posts
returns-then-not-try_line-clause-posts c = let s = c.args.self.now in let way = c.in-Some.way in let known = c.requires.chosen in
    let at : slice_get s.ways c.args.i ≡ Some (Some way) = known.1 ∙ ap (λ (z : Way). Some (Some z)) (way_read s.ways c.args.i known.0 way _ known.1 c.in-Some.is) in
    (posts_same s.ways c.args.i way _ at c.try_line.ensures.handle, keys_same s.ways c.args.i way _ at)

pub returns-clause-posts : goal.returns-clause-posts
returns-clause-posts c = let s = c.args.self.now in let way = c.in-Some.way in let known = c.requires.chosen in
    let at : slice_get s.ways c.args.i ≡ Some (Some way) = known.1 ∙ ap (λ (z : Way). Some (Some z)) (way_read s.ways c.args.i known.0 way _ known.1 c.in-Some.is) in
    (posts_same s.ways c.args.i way _ at c.try_line.ensures.handle, keys_same s.ways c.args.i way _ at)
