use Rattle.batch_queue.proofs.Common.{arith, dec_lt, dite, inl, inr, refl, ◌+◌}
use Rattle.batch_queue.proofs.Getting.{first_passed, followed_first}
use Rattle.batch_queue.proofs.Glancing.{far_seen, none_seen, tail_seen}
use Rattle.batch_queue.proofs.Peeking.{found_none, found_up, tail_then, up_seen, up_to}
use Rattle.batch_queue.proofs.look.find_published.Goals as goal

-- nothing is published at the tail
pub returns-then-not-leads_on-clause-trace : goal.returns-then-not-leads_on-clause-trace
returns-then-not-leads_on-clause-trace g c = found_none c.args.room _ _ _ _ _ c.requires.queue.some_room c.load_tail-tail.ensures.found c.load_mark-first.ensures.found (λ on far. c.if-not-leads_on.ensures on)

-- the mark is one of a later lap
pub returns-then-first-most-clause-trace : goal.returns-then-first-most-clause-trace
returns-then-first-most-clause-trace g c = found_none c.args.room _ _ _ _ _ c.requires.queue.some_room c.load_tail-tail.ensures.found c.load_mark-first.ensures.found (λ on far. let past = c.if-first-most.true in omega arith)

-- the walk
pub walk-to-requires-clause-passed : goal.walk-to-requires-clause-passed
walk-to-requires-clause-passed g c = first_passed c.args.room _ _ _ _ _ c.requires.queue.rooms c.load_tail-tail.ensures.found c.load_mark-first.ensures.found c.if-not-leads_on.ensures

pub returns-clause-up : goal.returns-clause-up
returns-clause-up g c = let past = c.if-not-leads_on.ensures.1 in let on = c.walk-to.ensures.on.0 in (omega arith, up_to c.walk-to.new.seat.me.0 _ _ c.walk-to.ensures.passed)

pub returns-clause-trace : goal.returns-clause-trace
returns-clause-trace g c = found_up c.args.room _ _ _ _ _ c.load_tail-tail.ensures.found (followed_first c.args.room c.args.room c.args.room _ _ _ _ _ _ refl c.load_mark-first.ensures.found c.if-not-leads_on.ensures (let far = c.if-first-most.false in omega arith) c.walk-to.ensures.trace)

pub returns-then-not-leads_on-clause-tail_at : goal.returns-then-not-leads_on-clause-tail_at
returns-then-not-leads_on-clause-tail_at g c = tail_seen c.args.room c.args.room _ _ _ _ _ c.load_tail-tail.ensures.found c.load_mark-first.ensures.found c.requires.queue.rooms

pub returns-then-first-most-clause-tail_at : goal.returns-then-first-most-clause-tail_at
returns-then-first-most-clause-tail_at g c = tail_seen c.args.room c.args.room _ _ _ _ _ c.load_tail-tail.ensures.found c.load_mark-first.ensures.found c.requires.queue.rooms

pub returns-clause-tail_at : goal.returns-clause-tail_at
returns-clause-tail_at g c = tail_then _ _ _ _ _ _ _ _ c.load_tail-tail.ensures.found c.load_mark-first.ensures.found c.walk-to.ensures.trace.made

pub returns-then-not-leads_on-clause-most : goal.returns-then-not-leads_on-clause-most
returns-then-not-leads_on-clause-most g c = inr (none_seen c.args.room c.args.room _ _ _ _ _ c.load_tail-tail.ensures.found c.load_mark-first.ensures.found c.requires.queue.rooms c.if-not-leads_on.ensures)

pub returns-then-first-most-clause-most : goal.returns-then-first-most-clause-most
returns-then-first-most-clause-most g c = inr (far_seen c.args.room c.args.room _ _ _ _ _ c.load_tail-tail.ensures.found c.load_mark-first.ensures.found c.requires.queue.rooms c.if-not-leads_on.ensures c.if-first-most.true)

pub returns-clause-most : goal.returns-clause-most
returns-clause-most g c = let w = c.walk-to.ensures in let far = w.on.1 in dite (dec_lt c.walk-to.result (c.load_tail-tail.result + c.args.room))
    (λ short. inr (up_seen c.args.room _ _ _ _ _ _ _ c.requires.queue.rooms c.load_tail-tail.ensures.found c.load_mark-first.ensures.found w.trace.made.adds.first (w.stopped_up refl short)))
    (λ full. inl (omega arith))
