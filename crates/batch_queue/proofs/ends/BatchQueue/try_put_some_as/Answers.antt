use Rattle.batch_queue.proofs.Common.{ap, arith, refl, rules}
use Rattle.table_theory.specs.declared.views.Part.{Part}
use Rattle.batch_queue.proofs.Putting.{has_put_front, put_front, put_line, refused_some, used_then, why_some}
use Rattle.batch_queue.proofs.Going.{goes_made, goes_none, goes_refused}
use Rattle.batch_queue.proofs.Seated.{seated, seated_alike}
use Rattle.batch_queue.proofs.Walking.{still_seated}
use Rattle.batch_queue.proofs.ends.BatchQueue.try_put_some_as.Goals as goal

pub returns-in_err-start-clause-trace : goal.returns-in_err-start-clause-trace
returns-in_err-start-clause-trace g c = refused_some c.args.self.now.room c.args.items.now _ _ _ _ (search rules) (search rules) c.in_err-start.ensures.refused

pub returns-clause-effect : goal.returns-clause-effect
returns-clause-effect g c = let h = c.in_ok-start.ensures.claim in let least = h.0 in
    (omega arith, h.1, put_line _ _ _ _ _ _ (put_front _ _ _ c.in_ok-start.count c.args.items.now _ _ _ _ _ (search rules) c.args.end.now.idle h.2 c.write_items.ensures.frame c.publish.ensures.published))

pub returns-clause-trace : goal.returns-clause-trace
returns-clause-trace g c = let h = c.in_ok-start.ensures.claim in
    put_front _ _ _ c.in_ok-start.count c.args.items.now _ _ _ _ _ (search rules) c.args.end.now.idle h.2 c.write_items.ensures.frame c.publish.ensures.published

pub returns-in_err-start-clause-error : goal.returns-in_err-start-clause-error
returns-in_err-start-clause-error g c = why_some c.args.self.now.room _ _ _ _ _ (search rules) (search rules) c.in_err-start.ensures.error

pub returns-clause-result : goal.returns-clause-result
returns-clause-result g c = let h = c.in_ok-start.ensures.claim in (
  has_put_front _ _ _ c.in_ok-start.count c.args.items.now _ _ _ _ _ (search rules) c.args.end.now.idle h.2 c.write_items.ensures.frame c.publish.ensures.published,
  used_then _ _ _ _ _ _ _ _ _ _ (ap (λ (z : Part). z.share) h.2.claim.added.member) c.write_items.ensures.frame c.publish.ensures.published.step.made c.in_ok-start.ensures.room,
)

pub returns-in_err-start-clause-frame : goal.returns-in_err-start-clause-frame
returns-in_err-start-clause-frame g c = goes_refused c.args.self.now.room _ _ _ _ _ c.args.end.now.ruled c.in_err-start.ensures.queue.1.2 c.in_err-start.ensures.refused

pub returns-clause-frame : goal.returns-clause-frame
returns-clause-frame g c = let h = c.in_ok-start.ensures.claim in
    goes_made _ _ _ _ c.args.end.now.ruled c.publish.ensures.queue.1.2 refl (put_front _ _ _ c.in_ok-start.count c.args.items.now _ _ _ _ _ (search rules) c.args.end.now.idle h.2 c.write_items.ensures.frame c.publish.ensures.published).2.added

pub returns-then-is_empty-clause-frame : goal.returns-then-is_empty-clause-frame
returns-then-is_empty-clause-frame g c = goes_none c.args.end.now.seat.me.0

pub write_items-requires-clause-queue : goal.write_items-requires-clause-queue
write_items-requires-clause-queue g c = let q = c.in_ok-start.ensures.queue in still_seated _ _ c.args.end.now.seat c.claim.new.seat (seated c.args.self.now c.args.end.now c.requires.queue) q.0 q.1

pub publish-requires-clause-queue : goal.publish-requires-clause-queue
publish-requires-clause-queue g c = let q = c.in_ok-start.ensures.queue in seated_alike _ _ c.claim.new.seat c.write_items.new.seat (still_seated _ _ c.args.end.now.seat c.claim.new.seat (seated c.args.self.now c.args.end.now c.requires.queue) q.0 q.1) c.write_items.ensures.handle c.write_items.ensures.frame
