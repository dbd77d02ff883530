use Rattle.batch_queue.proofs.Common.{arith, inr, refl}
use Rattle.table_theory.proofs.Parting.{made_none}
use Rattle.batch_queue.proofs.Growing.{grows_trans}
use Rattle.batch_queue.proofs.Stopping.{both_made, first_rest, full_after, more_short, none_short, passed_stop, reached, reached_first, rest_more, rest_stop, stop_all, stop_more, stop_none, stops_after, traces_after}
use Rattle.batch_queue.proofs.Walking.{passed_grows}
use Rattle.batch_queue.proofs.some.find_stop.Goals as goal

-- the first batch is too long
pub returns-then-first-last-clause-stop : goal.returns-then-first-last-clause-stop
returns-then-first-last-clause-stop g c = stops_after c.args.tail c.args.most _ _ _ _ _ c.requires.most.0 (made_none _) c.stop_within.ensures.stop

pub returns-then-first-last-clause-trace : goal.returns-then-first-last-clause-trace
returns-then-first-last-clause-trace g c = traces_after c.args.room c.args.tail c.args.most c.args.first c.args.tail c.args.first _ _ _ _ _ c.requires.first.0 (reached_first c.args.room c.args.tail c.args.most c.args.first c.requires.first.0) c.requires.first.0 c.if-first-last.true (made_none _) c.stop_within.ensures.stop c.stop_within.ensures.trace

-- the walk
pub walk-at-requires-clause-passed : goal.walk-at-requires-clause-passed
walk-at-requires-clause-passed g c = first_rest c.args.seat.now.me.0 _ _ c.requires.first.1

pub returns-then-at-last-clause-stop : goal.returns-then-at-last-clause-stop
returns-then-at-last-clause-stop g c = let on = c.requires.first.0.1 in let o = c.walk-at.ensures.on in let low = o.0 in let high = o.1 in (passed_stop c.walk-at.new.seat.me.0 _ _ c.walk-at.ensures.passed, omega arith, high)

pub returns-then-at-last-clause-trace : goal.returns-then-at-last-clause-trace
returns-then-at-last-clause-trace g c = stop_all c.args.room c.args.tail c.args.most c.args.first c.requires.first.0 (let b = c.if-first-last.false in omega arith) _ _ _ c.walk-at.ensures.trace c.if-at-last.true

-- nothing more is published
pub returns-then-not-leads_on-clause-grows : goal.returns-then-not-leads_on-clause-grows
returns-then-not-leads_on-clause-grows g c = grows_trans _ _ _ c.walk-at.ensures.grows c.load_mark-mark.ensures.found.grows

pub returns-then-not-leads_on-clause-stop : goal.returns-then-not-leads_on-clause-stop
returns-then-not-leads_on-clause-stop g c = let on = c.requires.first.0.1 in let o = c.walk-at.ensures.on in let low = o.0 in let high = o.1 in (passed_stop c.load_mark-mark.new.seat.me.0 _ _ (passed_grows 0 c.walk-at.new.seat.me.0 c.load_mark-mark.new.seat.me.0 _ _ c.load_mark-mark.ensures.found.grows c.walk-at.ensures.passed), omega arith, high)

pub returns-then-not-leads_on-clause-trace : goal.returns-then-not-leads_on-clause-trace
returns-then-not-leads_on-clause-trace g c = stop_none c.args.room c.args.tail c.args.most c.args.first c.requires.first.0 (let b = c.if-first-last.false in omega arith) _ _ _ c.walk-at.ensures.trace _ _ c.load_mark-mark.ensures.found (let o = c.walk-at.ensures.on.1 in let ne = c.if-at-last.false in omega arith) c.if-not-leads_on.ensures

-- one batch more was published meanwhile
pub returns-then-mark-last-clause-grows : goal.returns-then-mark-last-clause-grows
returns-then-mark-last-clause-grows g c = grows_trans _ _ _ c.walk-at.ensures.grows c.load_mark-mark.ensures.found.grows

pub returns-then-mark-last-clause-stop : goal.returns-then-mark-last-clause-stop
returns-then-mark-last-clause-stop g c = let on = c.requires.first.0.1 in let low = c.walk-at.ensures.on.0 in let past = c.if-not-leads_on.ensures.1 in (rest_stop c.load_mark-mark.new.seat.me.0 _ _ _ (rest_more c.args.room _ _ _ _ _ c.args.seat.now.me.0 c.walk-at.new.seat.me.0 c.load_mark-mark.new.seat.me.0 c.requires.queue.rooms (let o = c.walk-at.ensures.on.0 in let on = c.requires.first.0.1 in omega arith) c.walk-at.ensures.starts c.walk-at.ensures.passed c.walk-at.ensures.trace c.load_mark-mark.ensures.found c.if-not-leads_on.ensures), omega arith, c.if-mark-last.true)

pub returns-then-mark-last-clause-trace : goal.returns-then-mark-last-clause-trace
returns-then-mark-last-clause-trace g c = stop_more c.args.room c.args.tail c.args.most c.args.first c.requires.first.0 (let b = c.if-first-last.false in omega arith) _ _ _ c.walk-at.ensures.trace _ _ c.load_mark-mark.ensures.found (let o = c.walk-at.ensures.on.1 in let ne = c.if-at-last.false in omega arith) (let o = c.walk-at.ensures.on.0 in let on = c.requires.first.0.1 in omega arith) c.if-not-leads_on.ensures c.if-mark-last.true

-- the last batch is too long
pub stop_within-requires-2-clause-rest : goal.stop_within-requires-2-clause-rest
stop_within-requires-2-clause-rest g c = (rest_more c.args.room _ _ _ _ _ c.args.seat.now.me.0 c.walk-at.new.seat.me.0 c.load_mark-mark.new.seat.me.0 c.requires.queue.rooms (let o = c.walk-at.ensures.on.0 in let on = c.requires.first.0.1 in omega arith) c.walk-at.ensures.starts c.walk-at.ensures.passed c.walk-at.ensures.trace c.load_mark-mark.ensures.found c.if-not-leads_on.ensures)

pub returns-clause-grows : goal.returns-clause-grows
returns-clause-grows g c = grows_trans _ _ _ c.walk-at.ensures.grows (grows_trans _ _ _ c.load_mark-mark.ensures.found.grows c.stop_within-2.ensures.grows)

pub returns-clause-stop : goal.returns-clause-stop
returns-clause-stop g c = stops_after c.args.tail c.args.most _ _ _ _ _ c.requires.most.0 (both_made c.args.room c.args.tail c.args.most c.args.first c.requires.first.0 (let b = c.if-first-last.false in omega arith) _ _ _ c.walk-at.ensures.trace _ _ c.load_mark-mark.ensures.found (let o = c.walk-at.ensures.on.1 in let ne = c.if-at-last.false in omega arith)) c.stop_within-2.ensures.stop

pub returns-clause-trace : goal.returns-clause-trace
returns-clause-trace g c = traces_after c.args.room c.args.tail c.args.most c.args.first c.walk-at.result c.load_mark-mark.result _ _ _ _ _ c.requires.first.0
    (reached c.args.room c.args.tail c.args.most c.args.first c.requires.first.0 (let b = c.if-first-last.false in omega arith) _ _ _ c.walk-at.ensures.trace _ _ c.load_mark-mark.ensures.found (let o = c.walk-at.ensures.on.1 in let ne = c.if-at-last.false in omega arith))
    c.if-not-leads_on.ensures
    (let f = c.if-mark-last.false in omega arith)
    (both_made c.args.room c.args.tail c.args.most c.args.first c.requires.first.0 (let b = c.if-first-last.false in omega arith) _ _ _ c.walk-at.ensures.trace _ _ c.load_mark-mark.ensures.found (let o = c.walk-at.ensures.on.1 in let ne = c.if-at-last.false in omega arith))
    c.stop_within-2.ensures.stop
    c.stop_within-2.ensures.trace

-- what was not published
pub returns-then-first-last-clause-most : goal.returns-then-first-last-clause-most
returns-then-first-last-clause-most g c = full_after c.args.tail c.args.most _ _ _ _ c.stop_within.ensures.stop

pub returns-then-not-leads_on-clause-most : goal.returns-then-not-leads_on-clause-most
returns-then-not-leads_on-clause-most g c = inr (none_short c.args.room _ _ _ _ _ _ _ _ c.requires.queue.rooms (let o = c.walk-at.ensures.on.0 in let on = c.requires.first.0.1 in omega arith) c.walk-at.ensures.passed c.walk-at.ensures.trace c.walk-at.ensures.grows c.load_mark-mark.ensures.found c.if-not-leads_on.ensures)

pub returns-then-mark-last-clause-most : goal.returns-then-mark-last-clause-most
returns-then-mark-last-clause-most g c = inr (more_short c.args.room _ _ _ _ _ c.args.seat.now.me.0 c.walk-at.new.seat.me.0 c.load_mark-mark.new.seat.me.0 c.requires.queue.rooms (let o = c.walk-at.ensures.on.0 in let on = c.requires.first.0.1 in omega arith) c.walk-at.ensures.starts c.walk-at.ensures.passed c.walk-at.ensures.trace (c.walk-at.ensures.stopped_up refl (let o = c.walk-at.ensures.on.1 in let ne = c.if-at-last.false in omega arith)) c.load_mark-mark.ensures.found c.if-not-leads_on.ensures c.if-mark-last.true)

pub returns-clause-most : goal.returns-clause-most
returns-clause-most g c = full_after c.args.tail c.args.most _ _ _ _ c.stop_within-2.ensures.stop
