use Rattle.meters.proofs.Common.{sym, refl, subst, ◌∙◌, arith, List, append-nil, None, Alarm, IsValidView, SeatView, Gave, of_meters}
use Rattle.meters.specs.declared.ends.MeterSeat.{MeterSeat}
use Rattle.meters.proofs.Clients.{fires_due}
use Rattle.meters.proofs.Ending.{fire_keeps, fire_steps}
use Rattle.meters.proofs.Following.{swept_none, swept_more, swept_few, fired_now, empty_found, clock_seat, clock_on}
use Rattle.meters.proofs.ends.Meters.take_due.Goals.{then-not-is_empty, else-not-is_empty}
use Rattle.meters.proofs.ends.Meters.take_due.Goals as goal

pub loop-slot-init : goal.loop-slot-init
loop-slot-init c = let load = c.load_clock-clock.ensures in let is = load.clock in record {
  same = (refl, refl);
  valid = omega arith;
  swept = swept_none _ _ _ c.clear.ensures;
}

pub fire-requires-clause-room : goal.fire-requires-clause-room
fire-requires-clause-room c = let few = swept_few _ _ _ _ _ c.loop-slot.invariant.swept in let below = c.loop-slot-test.true in omega arith

pub fire-requires-clause-clock : goal.fire-requires-clause-clock
fire-requires-clause-clock c = let load = c.load_slot-found.ensures in
    clock_seat _ _ c.load_clock-clock.result _ c.loop-slot.seat.valid load.seat.2 load.found.2.looked.made.adds c.loop-slot.invariant.valid

pub loop-slot-preserved : goal.loop-slot-preserved
loop-slot-preserved c =
    let old = c.loop-slot.invariant in
    let load = c.load_slot-found.ensures in
    let clock = c.load_clock-clock.result in
    let slot = c.loop-slot.slot in
    let items : List Alarm = c.loop-slot.fired.items in
    let v : SeatView = c.loop-slot.seat.seat.me.0 in
    elim c.if-not-is_empty.branch [
      | then-not-is_empty w ↦
          let fire = w.fire.ensures in
          let got = fire.gave v load.found.0 load.found.1 load.found.2 in
          let g = subst (λ (z : MeterSeat). Gave v clock slot got.0 z.seat.me.0) (sym w.seat-is) got.1 in record {
            same = ((λ i. (w.seat-is i).seat.table_id) ∙ (fire.handle.0 ∙ (load.seat.0.0 ∙ old.same.0)), (λ i. (w.seat-is i).seat.id) ∙ (fire.handle.1 ∙ (load.seat.0.1 ∙ old.same.1)));
            valid = clock_on v _ clock slot got.0 c.loop-slot.seat.valid c.if-not-is_empty.seat.valid old.valid g;
            swept = swept_more _ v _ clock slot items c.if-not-is_empty.fired.items got.0 old.swept g c.loop-slot.seat.valid old.valid (subst (λ (z : MeterSeat). IsValidView of_meters z.seat.me.0) (sym w.seat-is) (fire.valid load.seat.2)) ((λ i. (w.fired-is i).items) ∙ got.2);
          }
      | else-not-is_empty w ↦
          let empty = empty_found v _ clock slot _ load.found.0 load.found.1 load.found.2 (sym c.is_empty.ensures ∙ w.if-not-is_empty.false) in
          let g = subst (λ (z : MeterSeat). Gave v clock slot None z.seat.me.0) (sym w.seat-is) empty in record {
            same = ((λ i. (w.seat-is i).seat.table_id) ∙ (load.seat.0.0 ∙ old.same.0), (λ i. (w.seat-is i).seat.id) ∙ (load.seat.0.1 ∙ old.same.1));
            valid = clock_on v _ clock slot None c.loop-slot.seat.valid c.if-not-is_empty.seat.valid old.valid g;
            swept = swept_more _ v _ clock slot items c.if-not-is_empty.fired.items None old.swept g c.loop-slot.seat.valid old.valid (subst (λ (z : MeterSeat). IsValidView of_meters z.seat.me.0) (sym w.seat-is) load.seat.2) ((λ i. (w.fired-is i).items) ∙ sym (append-nil items));
          }
    ]

pub returns-clause-trace : goal.returns-clause-trace
returns-clause-trace c = let past = c.loop-slot-test.false in let end = c.loop-slot.auto.slot-end in (fired_now _ _ _ _ c.loop-slot.slot _ (omega arith) c.load_clock-clock.ensures.found c.loop-slot.invariant.swept).0

pub returns-clause-owns : goal.returns-clause-owns
returns-clause-owns c = let past = c.loop-slot-test.false in let end = c.loop-slot.auto.slot-end in (fired_now _ _ _ _ c.loop-slot.slot _ (omega arith) c.load_clock-clock.ensures.found c.loop-slot.invariant.swept).1

pub returns-clause-effect : goal.returns-clause-effect
returns-clause-effect c = let past = c.loop-slot-test.false in let end = c.loop-slot.auto.slot-end in fires_due _ _ _ _ c.loop-slot.slot _ (omega arith) c.load_clock-clock.ensures.seat.2 c.load_clock-clock.ensures.found c.loop-slot.invariant.swept

pub returns-clause-frame : goal.returns-clause-frame
returns-clause-frame c = let past = c.loop-slot-test.false in let end = c.loop-slot.auto.slot-end in fire_keeps _ _ _ (fired_now _ _ _ _ c.loop-slot.slot _ (omega arith) c.load_clock-clock.ensures.found c.loop-slot.invariant.swept).0

pub returns-clause-steps : goal.returns-clause-steps
returns-clause-steps c = let past = c.loop-slot-test.false in let end = c.loop-slot.auto.slot-end in fire_steps _ _ _ (fired_now _ _ _ _ c.loop-slot.slot _ (omega arith) c.load_clock-clock.ensures.found c.loop-slot.invariant.swept).0
