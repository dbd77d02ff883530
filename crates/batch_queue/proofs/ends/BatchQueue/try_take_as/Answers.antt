use Rattle.batch_queue.proofs.Common.{ap, refl, sym}
use Rattle.table_theory.specs.declared.views.Part.{Part}
use Rattle.batch_queue.proofs.Filling.{filled, fit_all, read_is, took_first, took_of, were_first}
use Rattle.batch_queue.proofs.Going.{goes_made, goes_refused_take}
use Rattle.batch_queue.proofs.Permits.{each_keeps, front_of, were_put}
use Rattle.batch_queue.proofs.ends.BatchQueue.try_take_as.Goals as goal

pub returns-clause-effect : goal.returns-clause-effect
returns-clause-effect g c = let t = c.in_ok-start.ensures.taken in
    filled _ _ c.in_ok-start.count t.0 c.args.items.now c.read_items.new.items _ _ (sym t.1) (read_is _ _ c.in_ok-start.count t.0 c.args.items.now c.read_items.new.items _ t.2.slots c.read_items.ensures.effect) (took_of _ _ _ _ _ _ _ _ _ c.args.end.now.idle t.2 c.read_items.ensures.frame (sym t.1) c.give_back.ensures.given)

pub returns-clause-trace : goal.returns-clause-trace
returns-clause-trace g c = let t = c.in_ok-start.ensures.taken in
    took_first _ _ c.in_ok-start.count t.0 c.args.items.now c.read_items.new.items _ _ (sym t.1) (read_is _ _ c.in_ok-start.count t.0 c.args.items.now c.read_items.new.items _ t.2.slots c.read_items.ensures.effect) (took_of _ _ _ _ _ _ _ _ _ c.args.end.now.idle t.2 c.read_items.ensures.frame (sym t.1) c.give_back.ensures.given)

pub returns-clause-result : goal.returns-clause-result
returns-clause-result g c = let t = c.in_ok-start.ensures.taken in (
  were_first _ _ _ _ _ (took_first _ _ c.in_ok-start.count t.0 c.args.items.now c.read_items.new.items _ _ (sym t.1) (read_is _ _ c.in_ok-start.count t.0 c.args.items.now c.read_items.new.items _ t.2.slots c.read_items.ensures.effect) (took_of _ _ _ _ _ _ _ _ _ c.args.end.now.idle t.2 c.read_items.ensures.frame (sym t.1) c.give_back.ensures.given)),
  fit_all _ _ _ _ _ _ _ _ c.args.end.now.idle (ap (λ (z : Part). z.share) t.2.taken.added.member) c.read_items.ensures.frame c.give_back.ensures.given c.in_ok-start.ensures.most,
)

pub returns-in_err-start-clause-frame : goal.returns-in_err-start-clause-frame
returns-in_err-start-clause-frame g c = goes_refused_take c.args.self.now.room _ _ _ _ c.args.end.now.ruled c.in_err-start.ensures.queue.1.2 c.in_err-start.ensures.refused

pub returns-clause-frame : goal.returns-clause-frame
returns-clause-frame g c = let t = c.in_ok-start.ensures.taken in goes_made _ _ _ _ c.args.end.now.ruled c.give_back.ensures.queue.1.2 refl (took_of _ _ _ _ _ _ _ _ _ c.args.end.now.idle t.2 c.read_items.ensures.frame (sym t.1) c.give_back.ensures.given).3.added

pub returns-clause-protocol : goal.returns-clause-protocol
returns-clause-protocol g c = let e = returns-clause-effect g c in were_put g.C.Protocol.allows _ _ _ _ c.give_back.ensures.kept (front_of _ _ _ _ e.long e.buffer) e.took.0.takes

pub returns-clause-kept : goal.returns-clause-kept
returns-clause-kept g c = each_keeps g.C.Protocol.allows _ c.give_back.ensures.kept
