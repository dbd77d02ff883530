use Rattle.boot_threads.proofs.Common.{ℕ, [], rules, refl, subst, ◌∙◌, Ok, ring_of, MoveAnswer, call_of, view_of}
use Rattle.boot_threads.proofs.Handling.{move_refused, moved_none, moved_on, put_into}
use Rattle.boot_threads.proofs.elements.put.Goals as goal

pub loop-init : goal.loop-init
loop-init g c = record { steps = search rules; its = search rules; same = (refl, refl); moved = moved_none (view_of c.args.hand.now); holds = λ e. refl }

pub try_put-requires-clause-holds : goal.try_put-requires-clause-holds
try_put-requires-clause-holds g c = c.loop.invariant.holds c.args.element ∙ c.requires.holds

pub loop-preserved : goal.loop-preserved
loop-preserved g c = let s = move_refused (call_of c.loop.hand) (ring_of c.args.ring) c.args.element (view_of c.loop.hand) (view_of c.try_put.new.hand) _ c.try_put.new.hand.valid c.in-Err.ensures.trace in record {
  steps = search rules;
  its = search rules;
  same = search rules;
  moved = moved_on [] [] (view_of c.args.hand.now) (view_of c.loop.hand) (view_of c.try_put.new.hand) c.loop.invariant.moved s.0;
  holds = λ e. s.1 e ∙ c.loop.invariant.holds e;
}

pub returns-in-Ok-clause-put : goal.returns-in-Ok-clause-put
returns-in-Ok-clause-put g c = put_into (call_of c.args.hand.now) c.args.ring c.args.element (view_of c.args.hand.now) (view_of c.loop.hand) (view_of c.try_put.new.hand) c.try_put.new.hand.valid
    (c.loop.invariant.holds c.args.element ∙ c.requires.holds) c.loop.invariant.moved c.loop.invariant.holds
    (subst (λ (z : ℕ). MoveAnswer z (view_of c.loop.hand) (ring_of c.args.ring) c.args.element (Ok tt) (view_of c.try_put.new.hand)) c.loop.invariant.same.1 c.in-Ok.ensures.trace)
