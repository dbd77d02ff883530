use Rattle.turn_dispatch.proofs.Common.{view_of, call_of, ◌∙◌, ap, get_or, false}
use Rattle.turn_dispatch.proofs.Beginnings.{took_has}
use Rattle.turn_dispatch.proofs.OnlyLoads.{park_looks, runs_looks}
use Rattle.turn_dispatch.proofs.dispatch.awake.Goals as goal

pub make_ready-ready-requires-clause-held : goal.make_ready-ready-requires-clause-held
make_ready-ready-requires-clause-held g c = let h = c.args.hand.now in let u = c.try_next.new.hand in let n = c.try_park.new.hand in
    ap (λ xs. get_or xs c.in-Ok.element false) (park_looks (call_of u) c.in-Ok.element (view_of u) (view_of n) c.in-Err-try_park.lost c.in-Err-try_park.ensures.trace).1
    ∙ took_has (call_of h) 0 c.in-Ok.element (view_of h) (view_of u) c.in-Ok.ensures.trace

pub returns-in-Ok-false-clause-held : goal.returns-in-Ok-false-clause-held
returns-in-Ok-false-clause-held g c = let h = c.args.hand.now in let u = c.try_next.new.hand in let n = c.try_park.new.hand in
    ap (λ xs. get_or xs c.in-Ok.element false) (runs_looks (call_of u) c.in-Ok.element (view_of u) (view_of n) (rw c.in-Ok-false.field-0-test at c.in-Ok-false.ensures.trace)).1
    ∙ took_has (call_of h) 0 c.in-Ok.element (view_of h) (view_of u) c.in-Ok.ensures.trace
