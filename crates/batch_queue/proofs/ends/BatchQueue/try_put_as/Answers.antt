use Rattle.batch_queue.proofs.Common.{HoldsRange, IsClaim, arith, length, refl, rules, subst, sym, ◌≡◌}
use Rattle.std.specs.Prelude.{min}
use Rattle.batch_queue.proofs.Putting.{has_put, put_of, put_line, refused_all, whole_claim, why_all}
use Rattle.batch_queue.proofs.Going.{goes_made, goes_none, goes_refused}
use Rattle.batch_queue.proofs.Permits.{may_all}
use Rattle.batch_queue.proofs.Seated.{seated, seated_alike}
use Rattle.batch_queue.proofs.Walking.{still_seated}
use Rattle.batch_queue.proofs.ends.BatchQueue.try_put_as.Goals as goal

pub returns-in_err-start-clause-trace : goal.returns-in_err-start-clause-trace
returns-in_err-start-clause-trace g c = let some = c.if-count-eq0.false in let few = c.if-count-room.false in
    refused_all c.args.self.now.room _ _ c.args.items.now _ _ _ _ (search rules) (omega arith, omega arith) (let all : min (length c.args.items.now) c.args.self.now.room ≡ length c.args.items.now = omega arith in all) c.in_err-start.ensures.refused

pub returns-clause-effect : goal.returns-clause-effect
returns-clause-effect g c = let few = c.if-count-room.false in let h = c.in_ok-start.ensures.claim in
    put_line _ _ _ _ _ _ (put_of _ _ _ _ _ _ _ _ c.args.end.now.idle (whole_claim _ _ _ c.args.items.now _ _ h.0 (omega arith) h.2) c.write_items.ensures.frame c.publish.ensures.published)

pub returns-clause-trace : goal.returns-clause-trace
returns-clause-trace g c = let few = c.if-count-room.false in let h = c.in_ok-start.ensures.claim in
    put_of _ _ _ _ _ _ _ _ c.args.end.now.idle (whole_claim _ _ _ c.args.items.now _ _ h.0 (omega arith) h.2) c.write_items.ensures.frame c.publish.ensures.published

pub returns-in_err-start-clause-error : goal.returns-in_err-start-clause-error
returns-in_err-start-clause-error g c = let some = c.if-count-eq0.false in let few = c.if-count-room.false in
    why_all c.args.self.now.room _ _ _ _ _ _ (search rules) (omega arith, omega arith) (let all : min (length c.args.items.now) c.args.self.now.room ≡ length c.args.items.now = omega arith in all) c.in_err-start.ensures.error

pub returns-clause-result : goal.returns-clause-result
returns-clause-result g c = let few = c.if-count-room.false in let h = c.in_ok-start.ensures.claim in
    has_put _ _ _ _ _ _ _ _ c.args.end.now.idle (whole_claim _ _ _ c.args.items.now _ _ h.0 (omega arith) h.2) c.write_items.ensures.frame c.publish.ensures.published

pub returns-then-count-eq0-clause-frame : goal.returns-then-count-eq0-clause-frame
returns-then-count-eq0-clause-frame g c = goes_none c.args.end.now.seat.me.0

pub returns-then-count-room-clause-frame : goal.returns-then-count-room-clause-frame
returns-then-count-room-clause-frame g c = goes_none c.args.end.now.seat.me.0

pub returns-in_err-start-clause-frame : goal.returns-in_err-start-clause-frame
returns-in_err-start-clause-frame g c = goes_refused c.args.self.now.room _ _ _ _ _ c.args.end.now.ruled c.in_err-start.ensures.queue.1.2 c.in_err-start.ensures.refused

pub returns-clause-frame : goal.returns-clause-frame
returns-clause-frame g c = let few = c.if-count-room.false in let h = c.in_ok-start.ensures.claim in
    goes_made _ _ _ _ c.args.end.now.ruled c.publish.ensures.queue.1.2 refl (put_of _ _ _ _ _ _ _ _ c.args.end.now.idle (whole_claim _ _ _ c.args.items.now _ _ h.0 (omega arith) h.2) c.write_items.ensures.frame c.publish.ensures.published).2.added

pub claim-requires-clause-protocol : goal.claim-requires-clause-protocol
claim-requires-clause-protocol g c = may_all g.C.Protocol.allows c.args.end.now.seat.me.0 c.args.self.now.room c.args.items.now c.requires.protocol

pub write_items-requires-clause-queue : goal.write_items-requires-clause-queue
write_items-requires-clause-queue g c = let q = c.in_ok-start.ensures.queue in still_seated _ _ c.args.end.now.seat c.claim.new.seat (seated c.args.self.now c.args.end.now c.requires.queue) q.0 q.1

pub write_items-requires-clause-held : goal.write_items-requires-clause-held
write_items-requires-clause-held g c = let few = c.if-count-room.false in let h = c.in_ok-start.ensures.claim in let w = whole_claim _ _ _ c.args.items.now _ _ h.0 (omega arith) h.2 in (w.values, w.many, w.slots)

pub publish-requires-clause-queue : goal.publish-requires-clause-queue
publish-requires-clause-queue g c = let q = c.in_ok-start.ensures.queue in seated_alike _ _ c.claim.new.seat c.write_items.new.seat (still_seated _ _ c.args.end.now.seat c.claim.new.seat (seated c.args.self.now c.args.end.now c.requires.queue) q.0 q.1) c.write_items.ensures.handle c.write_items.ensures.frame

pub publish-requires-clause-mine : goal.publish-requires-clause-mine
publish-requires-clause-mine g c = let few = c.if-count-room.false in let h = c.in_ok-start.ensures.claim in
    subst (HoldsRange 0 c.in_ok-start.start (length c.args.items.now)) (sym c.write_items.ensures.frame) (whole_claim _ _ _ c.args.items.now _ _ h.0 (omega arith) h.2).range

pub publish-requires-clause-written : goal.publish-requires-clause-written
publish-requires-clause-written g c = c.write_items.ensures.effect

pub publish-requires-clause-claim : goal.publish-requires-clause-claim
publish-requires-clause-claim g c = let few = c.if-count-room.false in let h = c.in_ok-start.ensures.claim in
    subst (IsClaim c.in_ok-start.start c.args.items.now) (sym c.write_items.ensures.frame) (whole_claim _ _ _ c.args.items.now _ _ h.0 (omega arith) h.2).is
