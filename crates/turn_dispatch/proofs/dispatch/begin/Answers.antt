use Rattle.turn_dispatch.proofs.Common.{rules, view_of, call_of, Begun, Began, mask_of, no_events, one_delivery, refl}
use Rattle.turn_dispatch.proofs.Beginnings.{began_is, idle_is}
use Rattle.turn_dispatch.proofs.Calm.{steady}
use Rattle.turn_dispatch.proofs.Stepped.{found_steps}
use Rattle.turn_dispatch.proofs.dispatch.begin.Goals as goal

pub returns-in-Err-clause-frame : goal.returns-in-Err-clause-frame
returns-in-Err-clause-frame g c = let h = c.args.hand.now in (idle_is (call_of h) c.in-Err.idle (view_of h) (view_of c.awake.new.hand) c.in-Err.ensures.woken).0.keeps

pub returns-in-Err-clause-holds : goal.returns-in-Err-clause-holds
returns-in-Err-clause-holds g c = let h = c.args.hand.now in (idle_is (call_of h) c.in-Err.idle (view_of h) (view_of c.awake.new.hand) c.in-Err.ensures.woken).1

pub returns-in-Err-clause-adds : goal.returns-in-Err-clause-adds
returns-in-Err-clause-adds g c = let h = c.args.hand.now in (idle_is (call_of h) c.in-Err.idle (view_of h) (view_of c.awake.new.hand) c.in-Err.ensures.woken).0.adds

pub returns-in-Err-clause-steady : goal.returns-in-Err-clause-steady
returns-in-Err-clause-steady g c = let h = c.args.hand.now in steady no_events (view_of h) (view_of c.awake.new.hand) (λ e. refl) h.fresh h.valid c.awake.new.hand.valid (idle_is (call_of h) c.in-Err.idle (view_of h) (view_of c.awake.new.hand) c.in-Err.ensures.woken).0

pub returns-clause-holds : goal.returns-clause-holds
returns-clause-holds g c = let h = c.args.hand.now in let n = c.pc-number.new.hand in
    let b : Begun = record { element = c.in-Ok.element; delivered = c.deliver-delivered.result; number = c.pc-number.result } in
    let k : Began (call_of h) b (view_of h) (view_of n) = search rules in (began_is (call_of h) b (view_of h) (view_of n) k).1

pub returns-clause-adds : goal.returns-clause-adds
returns-clause-adds g c = let h = c.args.hand.now in let n = c.pc-number.new.hand in
    let b : Begun = record { element = c.in-Ok.element; delivered = c.deliver-delivered.result; number = c.pc-number.result } in
    let k : Began (call_of h) b (view_of h) (view_of n) = search rules in (began_is (call_of h) b (view_of h) (view_of n) k).0.adds

pub returns-clause-steady : goal.returns-clause-steady
returns-clause-steady g c = let h = c.args.hand.now in let n = c.pc-number.new.hand in
    let b : Begun = record { element = c.in-Ok.element; delivered = c.deliver-delivered.result; number = c.pc-number.result } in
    let k : Began (call_of h) b (view_of h) (view_of n) = search rules in steady (one_delivery b.element (mask_of b.delivered)) (view_of h) (view_of n) (λ e. refl) h.fresh h.valid n.valid (began_is (call_of h) b (view_of h) (view_of n) k).0

pub returns-clause-number : goal.returns-clause-number
returns-clause-number g c = let n = c.pc-number.new.hand in found_steps c.in-Ok.element c.pc-number.result (view_of c.deliver-delivered.new.hand) (view_of n) n.valid c.pc-number.ensures.trace
