use Rattle.std.proofs.Common.{ℕ, length, take, refl, sym, ap, subst, ◌∙◌, MatchResult}
use Rattle.batch_queue.specs.Parts.{TookSome, RefusedTakeSome}
use Rattle.bindings.specs.BatchHeld.{view_of, room_of}
use Rattle.bindings.proofs.BatchEnds.{take_some_keeps}
use Rattle.bindings.proofs.batch.held.HeldBatch.try_take_some.Goals as goal

pub invariant_of-self-clause-known : goal.invariant_of-self-clause-known
invariant_of-self-clause-known c = let x = c.args.self.now in let t = c.try_take_some in x.known ∙ sym (take_some_keeps c.args.items.now t.new.items (view_of x.end) (view_of t.new.end) t.result t.ensures.effect)

pub returns : goal.returns
returns c = let t = c.try_take_some in let e = t.ensures in let v = view_of c.args.self.now.end in let w = view_of t.new.end in let most = length c.args.items.now in let at = ap room_of c.deref.ensures in record {
  same = ((refl, e.handle), refl);
  effect = e.effect;
  error = e.error;
  trace = subst (λ (room : ℕ). MatchResult t.result (λ n. TookSome room v most (take n t.new.items) w) (λ r. RefusedTakeSome room v most r w)) at e.trace;
}
