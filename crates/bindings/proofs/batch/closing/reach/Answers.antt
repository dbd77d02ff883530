use Rattle.bindings.proofs.Calls.{◌≤◌, inl, refl, arith}
use Rattle.std.proofs.Common.{⊎_elim}
use Rattle.bindings.proofs.batch.closing.reach.Goals as goal

pub returns-in_default : goal.returns-in_default
returns-in_default c = let low = c.requires in let same : c.args.past ≤ c.args.past = omega arith in
    (same, λ e is. ⊎_elim (λ far. absurd (omega arith)) (λ none. absurd (none e is)) c.in_default.ensures, inl refl)
