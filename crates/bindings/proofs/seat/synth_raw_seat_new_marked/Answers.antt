use Rattle.bindings.proofs.Calls.{rules, sym, ◌∙◌, Seat, made_as}
use Rattle.bindings.specs.SeatHeld.{IsNewSeat}
use Rattle.bindings.proofs.seat.synth_raw_seat_new_marked.Goals as goal

pub returns : goal.returns
returns c = let f = c.fill in let is_new = IsNewSeat c.args.clock c.args.mark in
    made_as (λ x. Seat x) (Unit {0}) is_new c.new-made.result c.args.seat.now f.new.handle f.result
    (search rules) (sym c.is_full.ensures ∙ c.if-is_full.false) tt c.new-made.ensures f.ensures
