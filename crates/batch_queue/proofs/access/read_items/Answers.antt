use Rattle.std.proofs.Common.{rules, ◌∙◌, ap, arith, refl}
use Rattle.std.specs.Prelude.{ℕ}
use Rattle.atomic_table.specs.Table.{Me, turned}
use Rattle.batch_queue.proofs.Common.{View}
use Rattle.batch_queue.proofs.Turning.{reads_none, reads_more, reads_all, front}
use Rattle.batch_queue.proofs.access.read_items.Goals as goal

pub loop-i-init : goal.loop-i-init
loop-i-init g c = let h = c.requires.held in record { same = search rules; view = refl; reads = reads_none _ _ _ _ h.0 _ h.1 h.2 }

pub peek_item-item-requires-clause-queue : goal.peek_item-item-requires-clause-queue
peek_item-item-requires-clause-queue g c = c.loop-i.invariant.same.0 ∙ c.requires.queue.one

pub peek_item-item-requires-clause-front : goal.peek_item-item-requires-clause-front
peek_item-item-requires-clause-front g c = let w = c.loop-i.invariant.reads in let more = w.more in let below = c.loop-i-test.true in front _ _ w.left _ _ _ (omega arith) c.place-slot.ensures w.is

pub loop-i-preserved : goal.loop-i-preserved
loop-i-preserved g c = let i = c.loop-i.invariant in let e = c.peek_item-item.ensures in let t = c.turn.ensures in record {
  same = search rules;
  view = ap (λ (z : Me ℕ View). z.0) t.2 ∙ (ap (λ (z : Me ℕ View). z.0) e.frame ∙ i.view);
  reads = reads_more _ _ _ _ _ _ _ _ _ _ _ i.reads c.loop-i-test.true c.requires.bounded.1 c.place-slot.ensures e.result (ap (λ (z : Me ℕ View). z.1) t.2 ∙ ap (λ (z : Me ℕ View). turned z.1) e.frame);
}

pub returns-clause-effect : goal.returns-clause-effect
returns-clause-effect g c = (reads_all _ _ _ _ _ _ _ _ c.loop-i.invariant.reads (let f = c.loop-i-test.false in let r = c.loop-i.invariant.reads.more in omega arith)).0

pub returns-clause-held : goal.returns-clause-held
returns-clause-held g c = (reads_all _ _ _ _ _ _ _ _ c.loop-i.invariant.reads (let f = c.loop-i-test.false in let r = c.loop-i.invariant.reads.more in omega arith)).1
