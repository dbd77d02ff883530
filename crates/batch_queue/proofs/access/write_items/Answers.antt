use Rattle.std.proofs.Common.{rules, ◌∙◌, ap, arith, refl}
use Rattle.std.specs.Prelude.{ℕ}
use Rattle.atomic_table.specs.Table.{Me, turned}
use Rattle.batch_queue.proofs.Common.{View}
use Rattle.batch_queue.proofs.Turning.{writes_none, writes_more, writes_all, front}
use Rattle.batch_queue.proofs.access.write_items.Goals as goal

pub loop-i-init : goal.loop-i-init
loop-i-init g c = let h = c.requires.held in record { same = search rules; view = refl; writes = writes_none _ _ _ h.0 _ h.1 h.2 }

pub exchange-requires : goal.exchange-requires
exchange-requires g c = let w = c.loop-i.invariant.writes in let long = w.long in let below = c.loop-i-test.true in (c.loop-i.invariant.same.0 ∙ c.requires.queue.one, front _ _ w.left _ _ _ (omega arith) c.place-slot.ensures w.is)

pub loop-i-preserved : goal.loop-i-preserved
loop-i-preserved g c = let i = c.loop-i.invariant in let e = c.exchange.ensures in let t = c.turn.ensures in record {
  same = search rules;
  view = ap (λ (z : Me ℕ View). z.0) t.2 ∙ (ap (λ (z : Me ℕ View). z.0) e.3 ∙ i.view);
  writes = writes_more _ _ _ _ _ _ _ i.writes c.loop-i-test.true c.place-slot.ensures c.exchange.result e.2 (ap (λ (z : Me ℕ View). z.1) t.2 ∙ ap (λ (z : Me ℕ View). turned z.1) e.3);
}

pub returns-clause-effect : goal.returns-clause-effect
returns-clause-effect g c = writes_all _ _ _ _ _ c.loop-i.invariant.writes c.loop-i-test.false
