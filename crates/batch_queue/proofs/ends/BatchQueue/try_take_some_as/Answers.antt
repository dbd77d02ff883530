use Rattle.batch_queue.proofs.Common.{ap, length, refl, rules, sym}
use Rattle.table_theory.specs.declared.views.Part.{Part}
use Rattle.batch_queue.proofs.Filling.{read_is}
use Rattle.batch_queue.proofs.Going.{goes_made, goes_refused_some}
use Rattle.batch_queue.proofs.Portions.{empty_took, parts_if_full, filled_some, short_all, were_some, took_some_first, took_some_of}
use Rattle.batch_queue.proofs.Permits.{each_keeps, front_of, were_put}
use Rattle.batch_queue.proofs.Seated.{seated, seated_alike}
use Rattle.batch_queue.proofs.Walking.{still_seated}
use Rattle.batch_queue.proofs.ends.BatchQueue.try_take_some_as.Goals as goal

pub returns-clause-effect : goal.returns-clause-effect
returns-clause-effect g c = let t = c.in_ok-start.ensures.taken in
    filled_some _ _ c.in_ok-start.count t.0 c.args.items.now c.read_items.new.items _ _ (sym t.1) (read_is _ _ c.in_ok-start.count t.0 c.args.items.now c.read_items.new.items _ t.2.slots c.read_items.ensures.effect) (took_some_of _ _ _ _ _ _ _ _ _ c.args.end.now.idle t.2 c.read_items.ensures.frame (sym t.1) c.give_back.ensures.given)

pub returns-clause-trace : goal.returns-clause-trace
returns-clause-trace g c = let t = c.in_ok-start.ensures.taken in
    took_some_first _ _ c.in_ok-start.count t.0 c.args.items.now c.read_items.new.items _ _ (sym t.1) (read_is _ _ c.in_ok-start.count t.0 c.args.items.now c.read_items.new.items _ t.2.slots c.read_items.ensures.effect) (took_some_of _ _ _ _ _ _ _ _ _ c.args.end.now.idle t.2 c.read_items.ensures.frame (sym t.1) c.give_back.ensures.given)

pub returns-clause-result : goal.returns-clause-result
returns-clause-result g c = let t = c.in_ok-start.ensures.taken in (
  were_some _ _ _ _ _ (took_some_first _ _ c.in_ok-start.count t.0 c.args.items.now c.read_items.new.items _ _ (sym t.1) (read_is _ _ c.in_ok-start.count t.0 c.args.items.now c.read_items.new.items _ t.2.slots c.read_items.ensures.effect) (took_some_of _ _ _ _ _ _ _ _ _ c.args.end.now.idle t.2 c.read_items.ensures.frame (sym t.1) c.give_back.ensures.given)),
  short_all _ _ _ _ _ _ _ _ (ap (λ (z : Part). z.share) t.2.taken.added.member) c.read_items.ensures.frame c.give_back.ensures.given c.in_ok-start.ensures.most,
  parts_if_full _ _ c.in_ok-start.count t.0 _ _ (sym t.1) (took_some_of _ _ _ _ _ _ _ _ _ c.args.end.now.idle t.2 c.read_items.ensures.frame (sym t.1) c.give_back.ensures.given),
)

pub returns-in_err-start-clause-frame : goal.returns-in_err-start-clause-frame
returns-in_err-start-clause-frame g c = goes_refused_some c.args.self.now.room _ _ _ _ c.args.end.now.ruled c.in_err-start.ensures.queue.1.2 c.in_err-start.ensures.refused

pub returns-clause-frame : goal.returns-clause-frame
returns-clause-frame g c = let t = c.in_ok-start.ensures.taken in goes_made _ _ _ _ c.args.end.now.ruled c.give_back.ensures.queue.1.2 refl (took_some_of _ _ _ _ _ _ _ _ _ c.args.end.now.idle t.2 c.read_items.ensures.frame (sym t.1) c.give_back.ensures.given).3.added

pub returns-then-is_empty-clause-result : goal.returns-then-is_empty-clause-result
returns-then-is_empty-clause-result g c = empty_took c.args.self.now.room (length c.args.items.now) c.try_take_as.new.items c.args.end.now.seat.me.0 c.try_take_as.new.end.seat.me.0 c.try_take_as.result (search rules) c.try_take_as.ensures.trace

pub returns-clause-protocol : goal.returns-clause-protocol
returns-clause-protocol g c = let e = returns-clause-effect g c in were_put g.C.Protocol.allows _ _ _ _ c.give_back.ensures.kept (front_of _ _ _ _ e.long e.buffer) e.took.takes

pub returns-clause-kept : goal.returns-clause-kept
returns-clause-kept g c = each_keeps g.C.Protocol.allows _ c.give_back.ensures.kept

pub read_items-requires-clause-queue : goal.read_items-requires-clause-queue
read_items-requires-clause-queue g c = let q = c.in_ok-start.ensures.queue in still_seated _ _ c.args.end.now.seat c.take_some.new.seat (seated c.args.self.now c.args.end.now c.requires) q.0 q.1

pub give_back-requires-clause-queue : goal.give_back-requires-clause-queue
give_back-requires-clause-queue g c = let q = c.in_ok-start.ensures.queue in seated_alike _ _ c.take_some.new.seat c.read_items.new.seat (still_seated _ _ c.args.end.now.seat c.take_some.new.seat (seated c.args.self.now c.args.end.now c.requires) q.0 q.1) c.read_items.ensures.handle c.read_items.ensures.frame
