use Rattle.batch_queue.proofs.Common.{Found, arith, refl, subst, tail_word, ℕ}
use Rattle.batch_queue.proofs.Dividing.{lost_why, lost_within, near_now, passed_why, passed_within, stopped_within, up_to_stop, within_now}
use Rattle.std.specs.Prelude.{Bool}
use Rattle.batch_queue.specs.Parts.{PartedLook}
use Rattle.batch_queue.proofs.Growing.{grows_trans}
use Rattle.batch_queue.proofs.some.stop_within.Goals as goal

-- the tail has passed
pub returns-then-now-tail-clause-stop : goal.returns-then-now-tail-clause-stop
returns-then-now-tail-clause-stop g c = (_, refl, passed_why _ c.args.last _ _ _ c.requires.started c.if-now-tail.true c.load_tail-now.ensures.found)

pub returns-then-now-tail-clause-trace : goal.returns-then-now-tail-clause-trace
returns-then-now-tail-clause-trace g c = (_, refl, passed_within c.args.room c.args.tail c.args.last _ _ _ c.requires.started c.if-now-tail.true c.load_tail-now.ensures.found)

-- the tail was found again
pub part-requires-clause-within : goal.part-requires-clause-within
part-requires-clause-within g c = let f = subst (λ (z : ℕ). Found c.args.seat.now.me.0 tail_word z c.load_tail-now.new.seat.me.0) c.if-now-tail.false c.load_tail-now.ensures.found in let l = c.requires.last in let low = l.0 in let less = l.1 in let far = l.2 in
    within_now _ _ _ _ _ _ f c.requires.rest low less far

pub part-requires-clause-near : goal.part-requires-clause-near
part-requires-clause-near g c = let f = subst (λ (z : ℕ). Found c.args.seat.now.me.0 tail_word z c.load_tail-now.new.seat.me.0) c.if-now-tail.false c.load_tail-now.ensures.found in let l = c.requires.last in let low = l.0 in let less = l.1 in let far = l.2 in
    near_now c.args.room _ _ _ _ _ f c.requires.queue.rooms (omega arith) (within_now _ _ _ _ _ _ f c.requires.rest low less far)

-- nothing is known of a stop
pub returns-then-not-part-clause-grows : goal.returns-then-not-part-clause-grows
returns-then-not-part-clause-grows g c = grows_trans _ _ _ c.load_tail-now.ensures.found.grows (grows_trans _ _ _ c.part.ensures.grows c.load_tail-now-then-not-part.ensures.found.grows)

pub returns-then-not-part-clause-stop : goal.returns-then-not-part-clause-stop
returns-then-not-part-clause-stop g c = let f = subst (λ (z : ℕ). Found c.args.seat.now.me.0 tail_word z c.load_tail-now.new.seat.me.0) c.if-now-tail.false c.load_tail-now.ensures.found in let l = c.requires.last in let low = l.0 in let less = l.1 in let far = l.2 in
    (_, refl, lost_why c.args.room c.args.tail c.args.last c.args.end _ _ _ _ _ f (subst (λ (z : Bool). PartedLook c.args.room c.args.last c.args.end z c.load_tail-now.new.seat.me.0 c.part.new.seat.me.0) c.if-not-part.true c.part.ensures.trace) c.load_tail-now-then-not-part.ensures.found (omega arith) (c.part.ensures.changed c.if-not-part.true))

pub returns-then-not-part-clause-trace : goal.returns-then-not-part-clause-trace
returns-then-not-part-clause-trace g c = let f = subst (λ (z : ℕ). Found c.args.seat.now.me.0 tail_word z c.load_tail-now.new.seat.me.0) c.if-now-tail.false c.load_tail-now.ensures.found in let l = c.requires.last in let low = l.0 in let less = l.1 in let far = l.2 in
    (_, refl, lost_within c.args.room c.args.tail c.args.last c.args.end _ _ _ _ _ f (subst (λ (z : Bool). PartedLook c.args.room c.args.last c.args.end z c.load_tail-now.new.seat.me.0 c.part.new.seat.me.0) c.if-not-part.true c.part.ensures.trace) c.load_tail-now-then-not-part.ensures.found)

-- the batch is parted
pub returns-clause-grows : goal.returns-clause-grows
returns-clause-grows g c = grows_trans _ _ _ c.load_tail-now.ensures.found.grows c.part.ensures.grows

pub returns-clause-stop : goal.returns-clause-stop
returns-clause-stop g c = let f = subst (λ (z : ℕ). Found c.args.seat.now.me.0 tail_word z c.load_tail-now.new.seat.me.0) c.if-now-tail.false c.load_tail-now.ensures.found in let l = c.requires.last in let low = l.0 in let less = l.1 in let far = l.2 in
    (refl, up_to_stop c.args.seat.now.me.0 c.part.new.seat.me.0 _ _ _ _ (grows_trans _ _ _ f.grows c.part.ensures.grows) c.requires.rest far (c.part.ensures.stop c.if-not-part.false) (omega arith))

pub returns-clause-trace : goal.returns-clause-trace
returns-clause-trace g c = let f = subst (λ (z : ℕ). Found c.args.seat.now.me.0 tail_word z c.load_tail-now.new.seat.me.0) c.if-now-tail.false c.load_tail-now.ensures.found in let l = c.requires.last in let low = l.0 in let less = l.1 in let far = l.2 in
    stopped_within c.args.room c.args.tail c.args.last c.args.end _ _ _ f (subst (λ (z : Bool). PartedLook c.args.room c.args.last c.args.end z c.load_tail-now.new.seat.me.0 c.part.new.seat.me.0) c.if-not-part.false c.part.ensures.trace)
