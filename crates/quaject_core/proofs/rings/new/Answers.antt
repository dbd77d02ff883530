use Rattle.quaject_core.proofs.Common.{◌∷◌, sym, ap, ◌∙◌, arith, Queue, empty_queue, full_queue, queue}
use Rattle.quaject_core.proofs.Stored.Lifts.{shown_push, repeat_more}
use Rattle.quaject_core.proofs.rings.new.Goals as goal

pub loop-preserved : goal.loop-preserved
loop-preserved c =
    let e : Queue = empty_queue c.args.count in
    record {
      what = shown_push queue c.loop.rings.items c.push-in-loop.new.self.items c.new-in-loop.result _ e c.in_ok-push-3.ensures.items c.loop.invariant.what (c.new-in-loop.ensures ∙ ap empty_queue c.from-in-loop.ensures)
          ∙ sym (ap (λ rest. e ∷ full_queue c.args.count ∷ rest) (repeat_more c.loop.counter e));
      count = omega (arith, c.in_ok-push-3.ensures.len, c.loop.invariant.count);
    }
