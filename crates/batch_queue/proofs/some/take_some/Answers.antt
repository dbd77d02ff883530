use Rattle.batch_queue.proofs.Common.{ap, arith, inl, inr, refl, rules, subst, ℕ, ⊎_elim, ◌+◌, ◌∙◌, ◌≡◌}
use Rattle.table_theory.specs.declared.views.Part.{Part}
use Rattle.std.specs.Prelude.{min}
use Rattle.batch_queue.specs.Parts.{FoundStop, LostStop, WhyNoStop}
use Rattle.batch_queue.proofs.Dividing.{made_none_parted}
use Rattle.batch_queue.proofs.Getting.{first_up}
use Rattle.batch_queue.proofs.Glancing.{none_by, none_error}
use Rattle.batch_queue.proofs.Portions.{has_taken_some, no_stop_error, no_stop_refused, none_some_error, none_some_refused, passed_error, passed_refused, took_short}
use Rattle.batch_queue.proofs.some.take_some.Goals as goal

-- nothing is published at the tail
pub returns-then-not-leads_on-clause-error : goal.returns-then-not-leads_on-clause-error
returns-then-not-leads_on-clause-error g c = none_some_error c.args.room c.args.most _ _ _ _ _ _ 0 c.load_tail-tail.ensures.found c.load_mark-first.ensures.found _ c.why_none.ensures.why (none_error c.args.room c.args.most _ _ _ _ _ c.load_tail-tail.ensures.found c.load_mark-first.ensures.found c.requires.queue.rooms c.if-not-leads_on.ensures _ _ c.why_none.ensures.why)

pub returns-then-not-leads_on-clause-refused : goal.returns-then-not-leads_on-clause-refused
returns-then-not-leads_on-clause-refused g c = none_some_refused c.args.room c.args.most _ _ _ _ _ _ 0 c.load_tail-tail.ensures.found c.load_mark-first.ensures.found _ c.why_none.ensures.why (none_by c.args.room c.args.most _ _ _ _ _ c.load_tail-tail.ensures.found c.load_mark-first.ensures.found c.requires.queue.rooms c.if-not-leads_on.ensures _ _ _ (λ entries m. made_none_parted _ _ entries m) c.why_none.ensures.why)

-- where the taking ends
pub find_stop-requires-clause-first : goal.find_stop-requires-clause-first
find_stop-requires-clause-first g c = (c.if-not-leads_on.ensures, ⊎_elim (λ past. inl past) (λ a. inr (a.0, a.2)) (first_up c.args.room _ _ _ _ _ c.requires.queue.rooms c.load_tail-tail.ensures.found c.load_mark-first.ensures.found c.if-not-leads_on.ensures))

-- it was not found
pub returns-in-Err-clause-error : goal.returns-in-Err-clause-error
returns-in-Err-clause-error g c = let is : c.min-most.result ≡ min c.args.most c.args.room = search rules in let e = c.in-Err.ensures.stop in
    no_stop_error c.args.room c.args.most _ _ _ _ _ _ e.0 c.load_tail-tail.ensures.found c.load_mark-first.ensures.found _ c.requires.queue.rooms e.1 (subst (λ (z : ℕ). WhyNoStop c.load_tail-tail.result (c.load_tail-tail.result + z) e.0 c.load_mark-first.new.seat.me.0 c.find_stop.new.seat.me.0) is e.2)

pub returns-in-Err-clause-refused : goal.returns-in-Err-clause-refused
returns-in-Err-clause-refused g c = let is : c.min-most.result ≡ min c.args.most c.args.room = search rules in let e = c.in-Err.ensures.trace in no_stop_refused c.args.room c.args.most _ _ _ _ _ _ e.0 c.load_tail-tail.ensures.found c.load_mark-first.ensures.found _ e.1 (subst (λ (z : ℕ). LostStop c.args.room c.load_tail-tail.result z c.load_mark-first.result e.0 c.load_mark-first.new.seat.me.0 c.find_stop.new.seat.me.0) is e.2)

-- the compare-and-swap
pub returns-then-found-tail-clause-error : goal.returns-then-found-tail-clause-error
returns-then-found-tail-clause-error g c = let is : c.min-most.result ≡ min c.args.most c.args.room = search rules in let s = subst (λ (z : ℕ). FoundStop c.args.room c.load_tail-tail.result z c.load_mark-first.result c.in-Ok.new c.load_mark-first.new.seat.me.0 c.find_stop.new.seat.me.0) is c.in-Ok.ensures.trace in let g = c.in-Ok.ensures.stop in let less = g.1 in let far = g.2 in
    passed_error c.args.room c.args.most _ _ _ _ _ _ _ c.requires.queue.rooms c.load_tail-tail.ensures.found c.load_mark-first.ensures.found s (omega arith) (omega arith) c.in-Ok.ensures.grows _ _ c.if-found-tail.true (c.exchange_tail-found.ensures.miss c.if-found-tail.true).1

pub returns-then-found-tail-clause-refused : goal.returns-then-found-tail-clause-refused
returns-then-found-tail-clause-refused g c = let is : c.min-most.result ≡ min c.args.most c.args.room = search rules in let s = subst (λ (z : ℕ). FoundStop c.args.room c.load_tail-tail.result z c.load_mark-first.result c.in-Ok.new c.load_mark-first.new.seat.me.0 c.find_stop.new.seat.me.0) is c.in-Ok.ensures.trace in let g = c.in-Ok.ensures.stop in let less = g.1 in let far = g.2 in
    passed_refused c.args.room c.args.most _ _ _ _ _ _ _ c.requires.queue.rooms c.load_tail-tail.ensures.found c.load_mark-first.ensures.found s (omega arith) (omega arith) c.in-Ok.ensures.grows _ _ c.if-found-tail.true (c.exchange_tail-found.ensures.miss c.if-found-tail.true).1

pub returns-clause-taken : goal.returns-clause-taken
returns-clause-taken g c = let is : c.min-most.result ≡ min c.args.most c.args.room = search rules in let s = subst (λ (z : ℕ). FoundStop c.args.room c.load_tail-tail.result z c.load_mark-first.result c.in-Ok.new c.load_mark-first.new.seat.me.0 c.find_stop.new.seat.me.0) is c.in-Ok.ensures.trace in let g = c.in-Ok.ensures.stop in let less = g.1 in let far = g.2 in
    has_taken_some c.args.room c.args.most _ _ _ _ _ _ _ c.requires.queue.rooms c.load_tail-tail.ensures.found c.load_mark-first.ensures.found s (omega arith) (omega arith) c.in-Ok.ensures.grows _ (c.exchange_tail-found.ensures.hit c.if-found-tail.false)

pub returns-clause-most : goal.returns-clause-most
returns-clause-most g c = let is : c.min-most.result ≡ min c.args.most c.args.room = search rules in let s = c.in-Ok.ensures.trace in let less = c.in-Ok.ensures.stop.1 in
    took_short c.args.room c.args.most _ _ _ _ _ _ _ _ _ _ c.load_tail-tail.ensures.found c.load_mark-first.ensures.found is (ap (λ (z : Part). z.share) s.made.member) ((λ k. (s.made.did k).takes) ∙ ((λ k. (c.load_mark-first.ensures.found.made.did k).takes) ∙ (λ k. (c.load_tail-tail.ensures.found.made.did k).takes))) (c.exchange_tail-found.ensures.hit c.if-found-tail.false) less c.in-Ok.ensures.most refl
