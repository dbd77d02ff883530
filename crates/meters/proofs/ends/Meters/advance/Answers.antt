use Rattle.meters.proofs.Common.{ap, dite, ℕ_discrete, ◌≡◌, ◌∙◌}
use Rattle.table_theory.specs.declared.views.Part.{Part}
use Rattle.meters.proofs.Clients.{clock_became, clock_lost, moves_clock}
use Rattle.meters.proofs.Following.{lost_clock, advanced_now}
use Rattle.meters.proofs.ends.Meters.advance.Goals as goal

pub returns-then-found-clock-clause-trace : goal.returns-then-found-clock-clause-trace
returns-then-found-clock-clause-trace c = let ne = c.if-found-clock.true in let load = c.load_clock-clock.ensures in let missed = c.exchange_clock-found.ensures in let miss = missed.miss ne in
    (lost_clock _ _ _ _ _ load.found load.clock miss.0 miss.1 ne load.seat.2 missed.seat.2).0

pub returns-then-found-clock-clause-owns : goal.returns-then-found-clock-clause-owns
returns-then-found-clock-clause-owns c = let ne = c.if-found-clock.true in let load = c.load_clock-clock.ensures in let missed = c.exchange_clock-found.ensures in let miss = missed.miss ne in
    (lost_clock _ _ _ _ _ load.found load.clock miss.0 miss.1 ne load.seat.2 missed.seat.2).1

pub returns-clause-trace : goal.returns-clause-trace
returns-clause-trace c = (advanced_now _ _ _ _ c.load_clock-clock.ensures.found (c.exchange_clock-found.ensures.hit c.if-found-clock.false)).0

pub returns-clause-owns : goal.returns-clause-owns
returns-clause-owns c = (advanced_now _ _ _ _ c.load_clock-clock.ensures.found (c.exchange_clock-found.ensures.hit c.if-found-clock.false)).1

pub returns-then-found-clock-clause-effect : goal.returns-then-found-clock-clause-effect
returns-then-found-clock-clause-effect c = let ne = c.if-found-clock.true in let load = c.load_clock-clock.ensures in let missed = c.exchange_clock-found.ensures in let miss = missed.miss ne in
    (clock_lost _ _ _ missed.seat.2 (lost_clock _ _ _ _ _ load.found load.clock miss.0 miss.1 ne load.seat.2 missed.seat.2).0).0

pub returns-then-found-clock-clause-error : goal.returns-then-found-clock-clause-error
returns-then-found-clock-clause-error c = let ne = c.if-found-clock.true in let load = c.load_clock-clock.ensures in let missed = c.exchange_clock-found.ensures in let miss = missed.miss ne in
    (clock_lost _ _ _ missed.seat.2 (lost_clock _ _ _ _ _ load.found load.clock miss.0 miss.1 ne load.seat.2 missed.seat.2).0).1

pub returns-clause-effect : goal.returns-clause-effect
returns-clause-effect c = moves_clock _ _ _ (advanced_now _ _ _ _ c.load_clock-clock.ensures.found (c.exchange_clock-found.ensures.hit c.if-found-clock.false)).0

pub returns-clause-result : goal.returns-clause-result
returns-clause-result c = clock_became _ _ _ c.exchange_clock-found.ensures.seat.2 (advanced_now _ _ _ _ c.load_clock-clock.ensures.found (c.exchange_clock-found.ensures.hit c.if-found-clock.false)).0

pub invariant_of-seat : goal.invariant_of-seat
invariant_of-seat c = let seat = c.args.seat.now in let l = c.load_clock-clock.ensures in record { bare = l.seat.1 ∙ seat.bare; one = ap (λ (z : Part). z.ends) l.found.made.member ∙ seat.one; valid = ∣ l.seat.2 ∣₁ }

pub invariant_of-seat-2 : goal.invariant_of-seat-2
invariant_of-seat-2 c = let seat = c.args.seat.now in let l = c.load_clock-clock.ensures in let e = c.exchange_clock-found.ensures in let was : Part = c.load_clock-clock.new.seat.me.0.member in let now : Part = c.exchange_clock-found.new.seat.me.0.member in
    let same : now ≡ was = dite (ℕ_discrete c.exchange_clock-found.result c.load_clock-clock.result) (λ is. (e.hit is).1.member) (λ ne. (e.miss ne).0.made.member) in
    record { bare = e.seat.1 ∙ (l.seat.1 ∙ seat.bare); one = ap (λ (z : Part). z.ends) (same ∙ l.found.made.member) ∙ seat.one; valid = ∣ e.seat.2 ∣₁ }
