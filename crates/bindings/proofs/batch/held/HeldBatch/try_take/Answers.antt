use Rattle.std.proofs.Common.{ℕ, length, take, refl, sym, ap, subst, ◌∙◌, MatchResult}
use Rattle.batch_queue.specs.Takings.{TookBatches, RefusedTake}
use Rattle.bindings.specs.BatchHeld.{view_of, room_of}
use Rattle.bindings.proofs.BatchEnds.{take_keeps}
use Rattle.bindings.proofs.batch.held.HeldBatch.try_take.Goals as goal

pub invariant_of-self-clause-known : goal.invariant_of-self-clause-known
invariant_of-self-clause-known c = let x = c.args.self.now in let t = c.try_take in x.known ∙ sym (take_keeps c.args.items.now t.new.items (view_of x.end) (view_of t.new.end) t.result t.ensures.effect)

pub returns : goal.returns
returns c = let t = c.try_take in let e = t.ensures in let v = view_of c.args.self.now.end in let w = view_of t.new.end in let most = length c.args.items.now in let at = ap room_of c.deref.ensures in record {
  same = ((refl, e.handle), refl);
  effect = e.effect;
  error = e.error;
  trace = subst (λ (room : ℕ). MatchResult t.result (λ n. TookBatches room v most (take n t.new.items) w) (λ r. RefusedTake room v most r w)) at e.trace;
}
