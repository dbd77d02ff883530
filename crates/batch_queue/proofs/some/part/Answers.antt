use Rattle.batch_queue.proofs.Common.{arith, inl, inr, rules}
use Rattle.batch_queue.proofs.Dividing.{already_look, found_look, given_look, mark_changed, odd_on, parted_grows, parted_look, parted_stop, passed_given, still_rooms, still_within, stop_found, stop_if}
use Rattle.batch_queue.proofs.Growing.{grows_trans}
use Rattle.batch_queue.proofs.some.part.Goals as goal

-- the mark led on already
pub returns-then-leads_on-clause-stop : goal.returns-then-leads_on-clause-stop
returns-then-leads_on-clause-stop g c = λ yes. stop_found c.args.room _ _ _ _ _ c.load_mark-mark.ensures.found c.requires.queue.rooms c.requires.within (search rules)

pub returns-then-leads_on-clause-trace : goal.returns-then-leads_on-clause-trace
returns-then-leads_on-clause-trace g c = already_look c.args.room _ _ _ _ _ c.load_mark-mark.ensures.found c.requires.queue.rooms c.requires.within (search rules)

-- the place is given back
pub returns-then-mark-position-clause-changed : goal.returns-then-mark-position-clause-changed
returns-then-mark-position-clause-changed g c = λ no. inl (passed_given c.args.room _ _ _ _ _ c.load_mark-mark.ensures.found c.requires.queue.rooms c.requires.within (odd_on _ _ c.if-leads_on.ensures c.if-mark-position.true))

pub returns-then-mark-position-clause-trace : goal.returns-then-mark-position-clause-trace
returns-then-mark-position-clause-trace g c = given_look c.args.room _ _ _ _ _ c.load_mark-mark.ensures.found c.requires.queue.rooms c.requires.within (odd_on _ _ c.if-leads_on.ensures c.if-mark-position.true)

-- the mark is exchanged
pub exchange_mark-found-requires-clause-within : goal.exchange_mark-found-requires-clause-within
exchange_mark-found-requires-clause-within g c = still_within c.args.room _ _ _ _ _ c.load_mark-mark.ensures.found c.requires.queue.rooms c.requires.within

pub returns-then-found-mark-clause-grows : goal.returns-then-found-mark-clause-grows
returns-then-found-mark-clause-grows g c = parted_grows c.args.room _ _ _ _ _ c.load_mark-mark.ensures.found c.requires.queue.rooms c.requires.within _ (let low = c.if-mark-position.false in omega arith) (c.exchange_mark-found.ensures.hit c.if-found-mark.true)

pub returns-then-found-mark-clause-stop : goal.returns-then-found-mark-clause-stop
returns-then-found-mark-clause-stop g c = λ yes. inr (parted_stop c.args.room _ _ _ _ _ c.load_mark-mark.ensures.found c.requires.queue.rooms c.requires.within _ (let low = c.if-mark-position.false in omega arith) (c.exchange_mark-found.ensures.hit c.if-found-mark.true))

pub returns-then-found-mark-clause-trace : goal.returns-then-found-mark-clause-trace
returns-then-found-mark-clause-trace g c = parted_look c.args.room _ _ _ _ _ c.load_mark-mark.ensures.found c.requires.queue.rooms c.requires.within _ (let low = c.if-mark-position.false in omega arith) (c.exchange_mark-found.ensures.hit c.if-found-mark.true)

-- another end was first
pub returns-clause-grows : goal.returns-clause-grows
returns-clause-grows g c = grows_trans _ _ _ c.load_mark-mark.ensures.found.grows (c.exchange_mark-found.ensures.miss c.if-found-mark.false).grows

pub returns-clause-stop : goal.returns-clause-stop
returns-clause-stop g c = let f = c.load_mark-mark.ensures.found in let rooms = c.requires.queue.rooms in let w = c.requires.within in
    stop_if _ _ _ c.leads_on-2.ensures (stop_found c.args.room _ _ _ _ _ (c.exchange_mark-found.ensures.miss c.if-found-mark.false) (still_rooms c.args.room _ _ _ _ _ f rooms w) (still_within c.args.room _ _ _ _ _ f rooms w))

pub returns-clause-changed : goal.returns-clause-changed
returns-clause-changed g c = λ no. inr (mark_changed c.args.room _ _ _ _ _ c.load_mark-mark.ensures.found c.requires.queue.rooms c.requires.within _ (let low = c.if-mark-position.false in omega arith) _ c.if-found-mark.false (c.exchange_mark-found.ensures.miss c.if-found-mark.false))

pub returns-clause-trace : goal.returns-clause-trace
returns-clause-trace g c = found_look c.args.room _ _ _ _ _ c.load_mark-mark.ensures.found c.requires.queue.rooms c.requires.within _ (let low = c.if-mark-position.false in omega arith) _ c.if-found-mark.false (c.exchange_mark-found.ensures.miss c.if-found-mark.false) _ c.leads_on-2.ensures
