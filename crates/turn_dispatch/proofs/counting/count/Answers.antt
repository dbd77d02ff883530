use Rattle.turn_dispatch.proofs.Common.{rules, view_of, call_of, sym}
use Rattle.turn_dispatch.proofs.Stepped.{step_is, spent_is, steady_spent, found_steps}
use Rattle.turn_dispatch.proofs.counting.count.Goals as goal

pub returns-in-Ok-clause-adds : goal.returns-in-Ok-clause-adds
returns-in-Ok-clause-adds c = let h = c.args.hand.now in let n = c.step_done.new.hand in (step_is (call_of h) c.args.element c.in-Ok.number (view_of h) (view_of n) (search rules) h.fresh c.requires.mine h.valid n.valid c.in-Ok.ensures.trace).adds

pub returns-in-Ok-clause-number : goal.returns-in-Ok-clause-number
returns-in-Ok-clause-number c = let h = c.args.hand.now in let n = c.step_done.new.hand in let s = (step_is (call_of h) c.args.element c.in-Ok.number (view_of h) (view_of n) (search rules) h.fresh c.requires.mine h.valid n.valid c.in-Ok.ensures.trace) in (s.number_is, s.done_is)

pub returns-in-Ok-clause-steady : goal.returns-in-Ok-clause-steady
returns-in-Ok-clause-steady c = let h = c.args.hand.now in let n = c.step_done.new.hand in (step_is (call_of h) c.args.element c.in-Ok.number (view_of h) (view_of n) (search rules) h.fresh c.requires.mine h.valid n.valid c.in-Ok.ensures.trace).steady

pub returns-in-Err-clause-number : goal.returns-in-Err-clause-number
returns-in-Err-clause-number c = let h = c.args.hand.now in let n = c.step_done.new.hand in (spent_is c.args.element 4294967295 (view_of h) (view_of n) (search rules) h.fresh c.requires.mine h.valid n.valid c.in-Err.ensures.trace, sym (found_steps c.args.element 4294967295 (view_of h) (view_of n) n.valid c.in-Err.ensures.trace))

pub returns-in-Err-clause-steady : goal.returns-in-Err-clause-steady
returns-in-Err-clause-steady c = let h = c.args.hand.now in let n = c.step_done.new.hand in steady_spent c.args.element 4294967295 (view_of h) (view_of n) h.fresh h.valid n.valid c.in-Err.ensures.trace
