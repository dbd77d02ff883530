use Rattle.meters.proofs.Common.{arith, refl, ◌∙◌}
use Rattle.meters.proofs.Clients.{set_after, set_full, set_lost, sets_alarm}
use Rattle.meters.proofs.Ending.{set_keeps, lost_keeps, full_keeps, set_steps, lost_steps, full_steps}
use Rattle.meters.proofs.Following.{searched_none, searched_more, no_room, set_now, lost_slot}
use Rattle.meters.proofs.ends.Meters.try_set.Goals as goal

pub loop-slot-init : goal.loop-slot-init
loop-slot-init c = record { same = (refl, refl); searched = searched_none _ }

pub returns-then-exchange_in-clause-trace : goal.returns-then-exchange_in-clause-trace
returns-then-exchange_in-clause-trace c = (set_now _ _ _ _ c.loop-slot.slot _ c.loop-slot-test.true c.loop-slot.invariant.searched c.load_alarm.ensures.found c.if-is_none.ensures c.args.alarm (c.exchange_in.ensures.hit c.if-exchange_in.true)).0

pub returns-then-exchange_in-clause-owns : goal.returns-then-exchange_in-clause-owns
returns-then-exchange_in-clause-owns c = (set_now _ _ _ _ c.loop-slot.slot _ c.loop-slot-test.true c.loop-slot.invariant.searched c.load_alarm.ensures.found c.if-is_none.ensures c.args.alarm (c.exchange_in.ensures.hit c.if-exchange_in.true)).1

pub returns-then-is_none-clause-trace : goal.returns-then-is_none-clause-trace
returns-then-is_none-clause-trace c = (lost_slot _ _ _ _ c.loop-slot.slot _ c.loop-slot-test.true c.loop-slot.invariant.searched c.load_alarm.ensures.found c.if-is_none.ensures (c.exchange_in.ensures.miss c.if-exchange_in.false)).0

pub returns-then-is_none-clause-owns : goal.returns-then-is_none-clause-owns
returns-then-is_none-clause-owns c = (lost_slot _ _ _ _ c.loop-slot.slot _ c.loop-slot-test.true c.loop-slot.invariant.searched c.load_alarm.ensures.found c.if-is_none.ensures (c.exchange_in.ensures.miss c.if-exchange_in.false)).1

pub loop-slot-preserved : goal.loop-slot-preserved
loop-slot-preserved c = let load = c.load_alarm.ensures in let old = c.loop-slot.invariant in record {
  same = (load.seat.0.0 ∙ old.same.0, load.seat.0.1 ∙ old.same.1);
  searched = searched_more _ _ _ _ _ old.searched load.found load.seat.2 c.if-is_none.ensures;
}

pub returns-clause-trace : goal.returns-clause-trace
returns-clause-trace c = let past = c.loop-slot-test.false in let end = c.loop-slot.auto.slot-end in (no_room _ _ c.loop-slot.slot (omega arith) c.loop-slot.invariant.searched).0

pub returns-clause-owns : goal.returns-clause-owns
returns-clause-owns c = let past = c.loop-slot-test.false in let end = c.loop-slot.auto.slot-end in (no_room _ _ c.loop-slot.slot (omega arith) c.loop-slot.invariant.searched).1

pub returns-then-exchange_in-clause-effect : goal.returns-then-exchange_in-clause-effect
returns-then-exchange_in-clause-effect c = sets_alarm _ _ c.loop-slot.slot _ c.exchange_in.ensures.seat.2 (set_now _ _ _ _ c.loop-slot.slot _ c.loop-slot-test.true c.loop-slot.invariant.searched c.load_alarm.ensures.found c.if-is_none.ensures c.args.alarm (c.exchange_in.ensures.hit c.if-exchange_in.true)).0

pub returns-then-exchange_in-clause-result : goal.returns-then-exchange_in-clause-result
returns-then-exchange_in-clause-result c = set_after _ _ c.loop-slot.slot _ c.exchange_in.ensures.seat.2 (set_now _ _ _ _ c.loop-slot.slot _ c.loop-slot-test.true c.loop-slot.invariant.searched c.load_alarm.ensures.found c.if-is_none.ensures c.args.alarm (c.exchange_in.ensures.hit c.if-exchange_in.true)).0

pub returns-then-is_none-clause-effect : goal.returns-then-is_none-clause-effect
returns-then-is_none-clause-effect c = (set_lost _ _ c.loop-slot.slot c.exchange_in.ensures.seat.2 (lost_slot _ _ _ _ c.loop-slot.slot _ c.loop-slot-test.true c.loop-slot.invariant.searched c.load_alarm.ensures.found c.if-is_none.ensures (c.exchange_in.ensures.miss c.if-exchange_in.false)).0).0

pub returns-then-is_none-clause-error : goal.returns-then-is_none-clause-error
returns-then-is_none-clause-error c = (set_lost _ _ c.loop-slot.slot c.exchange_in.ensures.seat.2 (lost_slot _ _ _ _ c.loop-slot.slot _ c.loop-slot-test.true c.loop-slot.invariant.searched c.load_alarm.ensures.found c.if-is_none.ensures (c.exchange_in.ensures.miss c.if-exchange_in.false)).0).1

pub returns-clause-effect : goal.returns-clause-effect
returns-clause-effect c = let past = c.loop-slot-test.false in let end = c.loop-slot.auto.slot-end in (set_full _ _ c.loop-slot.slot (omega arith) c.loop-slot.invariant.searched).0

pub returns-clause-error : goal.returns-clause-error
returns-clause-error c = let past = c.loop-slot-test.false in let end = c.loop-slot.auto.slot-end in (set_full _ _ c.loop-slot.slot (omega arith) c.loop-slot.invariant.searched).1

pub returns-then-exchange_in-clause-frame : goal.returns-then-exchange_in-clause-frame
returns-then-exchange_in-clause-frame c = set_keeps _ _ c.loop-slot.slot _ (set_now _ _ _ _ c.loop-slot.slot _ c.loop-slot-test.true c.loop-slot.invariant.searched c.load_alarm.ensures.found c.if-is_none.ensures c.args.alarm (c.exchange_in.ensures.hit c.if-exchange_in.true)).0

pub returns-then-is_none-clause-frame : goal.returns-then-is_none-clause-frame
returns-then-is_none-clause-frame c = lost_keeps _ _ c.loop-slot.slot (lost_slot _ _ _ _ c.loop-slot.slot _ c.loop-slot-test.true c.loop-slot.invariant.searched c.load_alarm.ensures.found c.if-is_none.ensures (c.exchange_in.ensures.miss c.if-exchange_in.false)).0

pub returns-clause-frame : goal.returns-clause-frame
returns-clause-frame c = let past = c.loop-slot-test.false in let end = c.loop-slot.auto.slot-end in full_keeps _ _ (no_room _ _ c.loop-slot.slot (omega arith) c.loop-slot.invariant.searched).0

pub returns-then-exchange_in-clause-steps : goal.returns-then-exchange_in-clause-steps
returns-then-exchange_in-clause-steps c = set_steps _ _ c.loop-slot.slot _ (set_now _ _ _ _ c.loop-slot.slot _ c.loop-slot-test.true c.loop-slot.invariant.searched c.load_alarm.ensures.found c.if-is_none.ensures c.args.alarm (c.exchange_in.ensures.hit c.if-exchange_in.true)).0

pub returns-then-is_none-clause-steps : goal.returns-then-is_none-clause-steps
returns-then-is_none-clause-steps c = lost_steps _ _ c.loop-slot.slot (lost_slot _ _ _ _ c.loop-slot.slot _ c.loop-slot-test.true c.loop-slot.invariant.searched c.load_alarm.ensures.found c.if-is_none.ensures (c.exchange_in.ensures.miss c.if-exchange_in.false)).0

pub returns-clause-steps : goal.returns-clause-steps
returns-clause-steps c = let past = c.loop-slot-test.false in let end = c.loop-slot.auto.slot-end in full_steps _ _ (no_room _ _ c.loop-slot.slot (omega arith) c.loop-slot.invariant.searched).0
