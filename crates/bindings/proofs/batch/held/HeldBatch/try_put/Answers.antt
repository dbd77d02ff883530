use Rattle.std.proofs.Common.{◌≤◌, ℕ, length, refl, sym, ap, subst, ◌∙◌, MatchResult, IfErr}
use Rattle.batch_queue.specs.Puts.{IsPut, RefusedPut}
use Rattle.batch_queue.specs.Client.{WhyNotPut}
use Rattle.bindings.specs.BatchHeld.{view_of, room_of}
use Rattle.bindings.proofs.BatchEnds.{put_keeps}
use Rattle.bindings.proofs.batch.held.HeldBatch.try_put.Goals as goal

pub invariant_of-self-clause-known : goal.invariant_of-self-clause-known
invariant_of-self-clause-known c = let x = c.args.self.now in let t = c.try_put in x.known ∙ sym (put_keeps c.args.items.now (view_of x.end) (view_of t.new.end) t.result t.ensures.effect)

pub returns : goal.returns
returns c = let t = c.try_put in let e = t.ensures in let v = view_of c.args.self.now.end in let w = view_of t.new.end in let items = c.args.items.now in let at = ap room_of c.deref.ensures in record {
  same = ((refl, e.handle), refl);
  effect = e.effect;
  error = subst (λ (room : ℕ). IfErr t.result (λ r. WhyNotPut v room (length items) r w)) at e.error;
  shut = λ saw some few. e.shut saw some (subst (λ (room : ℕ). length items ≤ room) (sym at) few);
  trace = subst (λ (room : ℕ). MatchResult t.result (λ r. IsPut room v r items w) (λ r. RefusedPut room v (length items) r w)) at e.trace;
}
