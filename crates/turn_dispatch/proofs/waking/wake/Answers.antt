use Rattle.turn_dispatch.proofs.Common.{view_of, call_of, Woken, no_events, refl}
use Rattle.turn_dispatch.proofs.Calm.{steady}
use Rattle.turn_dispatch.proofs.Wakes.{can_wake, woke, woken_is}
use Rattle.turn_dispatch.proofs.waking.wake.Goals as goal

pub ready_all-ready-requires-clause-held : goal.ready_all-ready-requires-clause-held
ready_all-ready-requires-clause-held g c = let h = c.args.hand.now in let u = c.wake_all-taken.new.hand in can_wake (call_of h) c.args.wait c.wake_all-taken.result (view_of h) (view_of u) c.wake_all-taken.ensures.trace

pub returns-clause-woken : goal.returns-clause-woken
returns-clause-woken g c = let h = c.args.hand.now in let u = c.wake_all-taken.new.hand in let n = c.ready_all-ready.new.hand in
    woke (call_of h) (call_of u) c.args.wait c.wake_all-taken.result c.ready_all-ready.result (view_of h) (view_of u) (view_of n) c.wake_all-taken.ensures.handle.1 c.wake_all-taken.ensures.trace c.ready_all-ready.ensures.sent

pub returns-clause-frame : goal.returns-clause-frame
returns-clause-frame g c = let h = c.args.hand.now in let u = c.wake_all-taken.new.hand in let n = c.ready_all-ready.new.hand in let k : Woken = record { taken = c.wake_all-taken.result; ready = c.ready_all-ready.result } in
    (woken_is (call_of h) c.args.wait k (view_of h) (view_of n) h.fresh (woke (call_of h) (call_of u) c.args.wait k.taken k.ready (view_of h) (view_of u) (view_of n) c.wake_all-taken.ensures.handle.1 c.wake_all-taken.ensures.trace c.ready_all-ready.ensures.sent)).0.keeps

pub returns-clause-holds : goal.returns-clause-holds
returns-clause-holds g c = let h = c.args.hand.now in let u = c.wake_all-taken.new.hand in let n = c.ready_all-ready.new.hand in let k : Woken = record { taken = c.wake_all-taken.result; ready = c.ready_all-ready.result } in
    (woken_is (call_of h) c.args.wait k (view_of h) (view_of n) h.fresh (woke (call_of h) (call_of u) c.args.wait k.taken k.ready (view_of h) (view_of u) (view_of n) c.wake_all-taken.ensures.handle.1 c.wake_all-taken.ensures.trace c.ready_all-ready.ensures.sent)).1

pub returns-clause-adds : goal.returns-clause-adds
returns-clause-adds g c = let h = c.args.hand.now in let u = c.wake_all-taken.new.hand in let n = c.ready_all-ready.new.hand in let k : Woken = record { taken = c.wake_all-taken.result; ready = c.ready_all-ready.result } in
    (woken_is (call_of h) c.args.wait k (view_of h) (view_of n) h.fresh (woke (call_of h) (call_of u) c.args.wait k.taken k.ready (view_of h) (view_of u) (view_of n) c.wake_all-taken.ensures.handle.1 c.wake_all-taken.ensures.trace c.ready_all-ready.ensures.sent)).0.adds

pub returns-clause-steady : goal.returns-clause-steady
returns-clause-steady g c = let h = c.args.hand.now in let u = c.wake_all-taken.new.hand in let n = c.ready_all-ready.new.hand in let k : Woken = record { taken = c.wake_all-taken.result; ready = c.ready_all-ready.result } in
    steady no_events (view_of h) (view_of n) (λ e. refl) h.fresh h.valid n.valid
    (woken_is (call_of h) c.args.wait k (view_of h) (view_of n) h.fresh (woke (call_of h) (call_of u) c.args.wait k.taken k.ready (view_of h) (view_of u) (view_of n) c.wake_all-taken.ensures.handle.1 c.wake_all-taken.ensures.trace c.ready_all-ready.ensures.sent)).0
