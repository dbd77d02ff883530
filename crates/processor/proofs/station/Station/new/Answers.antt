use Rattle.processor.proofs.Common.{ℕ, ◌≤◌, ◌∙◌, subst, sym, arith, hear_count, longest_line}
use Rattle.processor.proofs.Rooming.{room_new}
use Rattle.processor.proofs.station.Station.new.Goals as goal

pub returns-in-Ok-clause-room : goal.returns-in-Ok-clause-room
returns-in-Ok-clause-room c = let plan = c.args.shared.now.plan in
    let made = c.in-Ok.ensures in
    room_new plan _ made.0 (subst (λ (n : ℕ). hear_count plan ≤ n) (sym (made.1 ∙ c.hears_of.ensures.result)) (omega arith))
    (subst (λ (n : ℕ). longest_line plan ≤ n) (sym (made.2 ∙ c.longest_line.ensures.result)) (omega arith))
