use Rattle.bindings.proofs.Calls.{◌≡◌, ℕ, List, [], ◌∷◌, map, take, refl, sym, ap, subst, ◌∙◌, Option, Some, or_zero}
use Rattle.bindings.proofs.Calls.{rules}
use Rattle.claim_queue.specs.Closings.{ClosedNow}
use Rattle.table_theory.specs.Positioned.{left_of}
use Rattle.table_theory.specs.Listing.{AllRaised}
use Rattle.claim_queue.specs.Own.{View}
use Rattle.bindings.specs.QueueParts.{view_of}
use Rattle.bindings.proofs.queue.closing.close_queue.Goals as goal

or_some : (xs : List ℕ) → map or_zero (map Some xs) ≡ xs
or_some [] = refl
or_some (x ∷ xs) = ap (λ (z : List ℕ). x ∷ z) (or_some xs)

-- the places left are those put after the places taken, each with its item
closed_left : (v : View) (first put taken k : ℕ) (left : List (Option ℕ)) (new : List ℕ) → ClosedNow v first put taken left
    → AllRaised v.own.runs → take k new ≡ map or_zero left → ClosedNow v first put taken (map Some (take k new))
closed_left v first put taken k left new c all e = let r = c.raised all in
    subst (ClosedNow v first put taken) (r ∙ ap (map Some) (sym (e ∙ ap (map or_zero) r ∙ or_some (left_of v.seen.object)))) c

pub returns : goal.returns
returns g c = let d = c.in-Ok.closed in let l = c.copy_left-left in
    (c.in-Ok.ensures.closed.0, search rules, l.ensures.rest, closed_left (view_of c.args.end) d.first d.put d.taken l.result d.left.items l.new.out c.in-Ok.ensures.closed.1 c.requires.raised l.ensures.copied)
