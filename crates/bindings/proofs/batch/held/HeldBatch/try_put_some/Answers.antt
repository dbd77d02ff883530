use Rattle.std.proofs.Common.{ℕ, length, refl, sym, ap, subst, ◌∙◌, MatchResult, IfErr}
use Rattle.batch_queue.specs.Puts.{IsPutSome, RefusedSome}
use Rattle.batch_queue.specs.Client.{WhyNotPutSome}
use Rattle.bindings.specs.BatchHeld.{view_of, room_of}
use Rattle.bindings.proofs.BatchEnds.{put_some_keeps}
use Rattle.bindings.proofs.batch.held.HeldBatch.try_put_some.Goals as goal

pub invariant_of-self-clause-known : goal.invariant_of-self-clause-known
invariant_of-self-clause-known c = let x = c.args.self.now in let t = c.try_put_some in x.known ∙ sym (put_some_keeps c.args.items.now (view_of x.end) (view_of t.new.end) t.result t.ensures.effect)

pub returns : goal.returns
returns c = let t = c.try_put_some in let e = t.ensures in let v = view_of c.args.self.now.end in let w = view_of t.new.end in let items = c.args.items.now in let at = ap room_of c.deref.ensures in record {
  same = ((refl, e.handle), refl);
  effect = e.effect;
  error = subst (λ (room : ℕ). IfErr t.result (λ r. WhyNotPutSome v room (length items) r w)) at e.error;
  shut = e.shut;
  trace = subst (λ (room : ℕ). MatchResult t.result (λ r. IsPutSome room v r.0 r.1 items w) (λ r. RefusedSome room v (length items) r w)) at e.trace;
}
