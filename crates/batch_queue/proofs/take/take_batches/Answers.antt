use Rattle.batch_queue.proofs.Common.{ap, arith, refl, rules, ◌∙◌, ◌≡◌}
use Rattle.table_theory.specs.declared.views.Part.{Part}
use Rattle.std.specs.Prelude.{min}
use Rattle.batch_queue.specs.Walks.{LeadsOn}
use Rattle.batch_queue.proofs.Growing.{grows_trans}
use Rattle.batch_queue.proofs.Getting.{first_passed, followed_first, lost_error, lost_refused, has_taken, took_most}
use Rattle.batch_queue.proofs.Glancing.{none_error, none_refused, short_error, short_refused}
use Rattle.batch_queue.proofs.Stopping.{passed_stop}
use Rattle.batch_queue.proofs.take.take_batches.Goals as goal

pub returns-then-not-leads_on-clause-error : goal.returns-then-not-leads_on-clause-error
returns-then-not-leads_on-clause-error g c = none_error c.args.room _ _ _ _ _ _ c.load_tail-tail.ensures.found c.load_mark-first.ensures.found c.requires.queue.rooms (let n : (LeadsOn 0 c.load_tail-tail.result c.load_mark-first.result → ⊥) = search rules in n) _ _ c.why_none.ensures.why

pub returns-then-not-leads_on-clause-refused : goal.returns-then-not-leads_on-clause-refused
returns-then-not-leads_on-clause-refused g c = none_refused c.args.room _ _ _ _ _ _ c.load_tail-tail.ensures.found c.load_mark-first.ensures.found c.requires.queue.rooms (let n : (LeadsOn 0 c.load_tail-tail.result c.load_mark-first.result → ⊥) = search rules in n) _ _ c.why_none.ensures.why

pub returns-then-count-most-clause-error : goal.returns-then-count-most-clause-error
returns-then-count-most-clause-error g c = let on : LeadsOn 0 c.load_tail-tail.result c.load_mark-first.result = search rules in let past = on.1 in
    short_error c.args.room _ _ _ _ _ _ c.load_tail-tail.ensures.found c.load_mark-first.ensures.found c.requires.queue.rooms on _ (omega arith) (let long = c.if-count-most.true in let is : c.min-most.result ≡ min c.args.most c.args.room = search rules in omega arith) _ _ c.why_short.ensures.why

pub returns-then-count-most-clause-refused : goal.returns-then-count-most-clause-refused
returns-then-count-most-clause-refused g c = let on : LeadsOn 0 c.load_tail-tail.result c.load_mark-first.result = search rules in let past = on.1 in
    short_refused c.args.room _ _ _ _ _ _ c.load_tail-tail.ensures.found c.load_mark-first.ensures.found c.requires.queue.rooms on _ (omega arith) (let long = c.if-count-most.true in let is : c.min-most.result ≡ min c.args.most c.args.room = search rules in omega arith) _ _ c.why_short.ensures.why

pub walk-new-requires-clause-passed : goal.walk-new-requires-clause-passed
walk-new-requires-clause-passed g c = let on : LeadsOn 0 c.load_tail-tail.result c.load_mark-first.result = search rules in first_passed c.args.room _ _ _ _ _ c.requires.queue.rooms c.load_tail-tail.ensures.found c.load_mark-first.ensures.found on

pub returns-then-found-tail-clause-error : goal.returns-then-found-tail-clause-error
returns-then-found-tail-clause-error g c = let on : LeadsOn 0 c.load_tail-tail.result c.load_mark-first.result = search rules in let past = on.1 in let fits = c.if-count-most.false in let w = c.walk-new.ensures in let is : c.min-most.result ≡ min c.args.most c.args.room = search rules in let f = followed_first _ _ _ _ _ _ _ _ _ is c.load_mark-first.ensures.found on (omega arith) w.trace in let g = grows_trans _ _ _ c.load_mark-first.ensures.found.grows w.grows in let low = w.on.0 in
    lost_error c.args.room _ _ _ _ _ _ c.requires.queue.rooms c.load_tail-tail.ensures.found f g (omega arith) (let far = w.on.1 in omega arith) w.passed _ _ c.if-found-tail.true (c.exchange_tail-found.ensures.miss c.if-found-tail.true).1

pub returns-then-found-tail-clause-refused : goal.returns-then-found-tail-clause-refused
returns-then-found-tail-clause-refused g c = let on : LeadsOn 0 c.load_tail-tail.result c.load_mark-first.result = search rules in let past = on.1 in let fits = c.if-count-most.false in let w = c.walk-new.ensures in let is : c.min-most.result ≡ min c.args.most c.args.room = search rules in let f = followed_first _ _ _ _ _ _ _ _ _ is c.load_mark-first.ensures.found on (omega arith) w.trace in let g = grows_trans _ _ _ c.load_mark-first.ensures.found.grows w.grows in let low = w.on.0 in
    lost_refused c.args.room _ _ _ _ _ _ c.requires.queue.rooms c.load_tail-tail.ensures.found f g (omega arith) (let far = w.on.1 in omega arith) w.passed _ _ c.if-found-tail.true (c.exchange_tail-found.ensures.miss c.if-found-tail.true).1

pub returns-clause-taken : goal.returns-clause-taken
returns-clause-taken g c = let on : LeadsOn 0 c.load_tail-tail.result c.load_mark-first.result = search rules in let past = on.1 in let fits = c.if-count-most.false in let w = c.walk-new.ensures in let is : c.min-most.result ≡ min c.args.most c.args.room = search rules in let f = followed_first _ _ _ _ _ _ _ _ _ is c.load_mark-first.ensures.found on (omega arith) w.trace in let g = grows_trans _ _ _ c.load_mark-first.ensures.found.grows w.grows in let low = w.on.0 in
    has_taken c.args.room _ _ _ _ _ _ c.requires.queue.rooms c.load_tail-tail.ensures.found f g (omega arith) (let far = w.on.1 in omega arith) w.passed _ (c.exchange_tail-found.ensures.hit c.if-found-tail.false)

pub returns-clause-most : goal.returns-clause-most
returns-clause-most g c = let on : LeadsOn 0 c.load_tail-tail.result c.load_mark-first.result = search rules in let past = on.1 in let fits = c.if-count-most.false in let w = c.walk-new.ensures in let is : c.min-most.result ≡ min c.args.most c.args.room = search rules in let low = w.on.0 in
    took_most c.args.room c.args.most _ _ _ _ _ _ _ _ _ _ c.load_tail-tail.ensures.found c.load_mark-first.ensures.found is (ap (λ (z : Part). z.share) w.trace.made.member) (w.trace.made.did ∙ (c.load_mark-first.ensures.found.made.did ∙ c.load_tail-tail.ensures.found.made.did)) (c.exchange_tail-found.ensures.hit c.if-found-tail.false) (omega arith) w.on.1 (w.stopped_up refl) refl

pub exchange_tail-found-requires-clause-up : goal.exchange_tail-found-requires-clause-up
exchange_tail-found-requires-clause-up g c = let on : LeadsOn 0 c.load_tail-tail.result c.load_mark-first.result = search rules in let past = on.1 in let w = c.walk-new.ensures in let low = w.on.0 in
    (passed_stop c.walk-new.new.seat.me.0 _ _ w.passed, omega arith)
