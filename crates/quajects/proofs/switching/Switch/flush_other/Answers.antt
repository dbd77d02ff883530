use Rattle.quajects.proofs.Common.{◌≡◌, ℕ, List, ap, ◌∙◌, ◌++◌, ◌∷◌, [], if◌then◌else◌, Bool, view_of, lines_put}
use Rattle.quajects.proofs.Routes.{each_other, rest_put}
use Rattle.quajects.proofs.switching.Switch.flush_other.Goals as goal

pub invariant_of-self-2 : goal.invariant_of-self-2
invariant_of-self-2 c = let s = c.args.self.now in
    let more : lines_put (view_of c.try_line.new.self.end) ≡ lines_put (view_of s.other.end) ++ s.held.items ∷ []
    = c.try_line.ensures.effect ∙ ap (λ (z : Bool). if z then lines_put (view_of s.other.end) ++ c.as_slice.result.now ∷ [] else lines_put (view_of s.other.end)) c.if-not-try_line.false
    ∙ ap (λ (z : List ℕ). lines_put (view_of s.other.end) ++ z ∷ []) c.as_slice.ensures.value in
    record {
      four = s.four;
      apart = s.apart;
      each = each_other s.ways _ _ _ c.requires.none c.clear.ensures s.each;
      rest = rest_put s.ways _ _ _ _ _ c.requires.none c.requires.held c.clear.ensures more s.rest;
    }
