use Rattle.claim_queue.proofs.Common.{refl, inr, rules, arith, [], ◌∷◌, ap, IsNone, IsOne, QueueOps, ◌∙◌, Part, Positions}
use Rattle.claim_queue.proofs.Brevity.{one_steps, took_steps}
use Rattle.claim_queue.proofs.Clients.{take_error, take_result, took_shuts}
use Rattle.claim_queue.proofs.Emptying.{refused_few, refused_unpaused, passed_meanwhile, took_after}
use Rattle.claim_queue.proofs.Following.{then_look}
use Rattle.claim_queue.proofs.Lining.{took_line}
use Rattle.claim_queue.proofs.Pausing.{paused_last}
use Rattle.claim_queue.proofs.Permits.{each_keeps, were_put}
use Rattle.claim_queue.proofs.Scanning.{stopped, none_scanned, scanned_more, nothing_found, found_more}
use Rattle.claim_queue.specs.declared.take.TakeRefusal.TheVariants as takes
use Rattle.claim_queue.proofs.Staying.{stays_both}
use Rattle.claim_queue.proofs.ends.ClaimQueue.take_first.Goals as goal

pub returns-then-flag-tail-clause-trace : goal.returns-then-flag-tail-clause-trace
returns-then-flag-tail-clause-trace g c = let f = c.load_flag-flag.ensures in
    refused_few IsNone g.row.N _ _ _ _ _ [] c.load_tail-tail.ensures.found refl (stopped g.row.N _ _ _ _ _ _ [] (omega arith) (none_scanned g.row.N _ _) f.found c.if-flag-tail.true (f.not_mine c.if-flag-tail.true)) IsOne _ _ (omega arith) c.refusal_at.ensures.why

pub returns-then-flag-tail-clause-error : goal.returns-then-flag-tail-clause-error
returns-then-flag-tail-clause-error g c = let f = c.load_flag-flag.ensures in
    take_error c.args.end.now _ c.refusal_at.new.end.ruled _ (refused_few IsNone g.row.N _ _ _ _ _ [] c.load_tail-tail.ensures.found refl (stopped g.row.N _ _ _ _ _ _ [] (omega arith) (none_scanned g.row.N _ _) f.found c.if-flag-tail.true (f.not_mine c.if-flag-tail.true)) IsOne _ _ (omega arith) c.refusal_at.ensures.why)

pub returns-then-flag-tail-clause-hook : goal.returns-then-flag-tail-clause-hook
returns-then-flag-tail-clause-hook g c = let f = c.load_flag-flag.ensures in
    refused_unpaused _ g.row.N _ _ _ _ _ _ _ _ c.load_tail-tail.ensures.found (stopped g.row.N _ _ _ _ _ _ [] (omega arith) (none_scanned g.row.N _ _) f.found c.if-flag-tail.true (f.not_mine c.if-flag-tail.true)) c.refusal_at.ensures.why

pub returns-then-found-tail : goal.returns-then-found-tail
returns-then-found-tail g c = let t = c.load_tail-tail.ensures in let f = c.load_flag-flag.ensures in let d = c.load_data-item.ensures in let x = c.exchange_tail-found.ensures in
    let passed = passed_meanwhile g.row.N _ _ _ _ _ (c.load_data-item.result ∷ []) t.found (scanned_more g.row.N _ _ _ _ _ _ _ _ [] (omega arith) (none_scanned g.row.N _ _) f.found c.if-flag-tail.false d.found) (found_more _ _ _ _ _ _ _ _ _ [] (omega arith) (nothing_found _ _ t.tail.0) f.found d.found (f.raised c.if-flag-tail.false) d.item)
    IsOne _ refl (x.miss c.if-found-tail.true).0 c.if-found-tail.true in let error = take_error c.args.end.now _ x.queue.1.3 (takes.Lost c.exchange_tail-found.result) (inr passed) in record {
      effect = search rules;
      result = search rules;
      protocol = search rules;
      kept = search rules;
      frame = search rules;
      shuts_nothing = ap (λ (z : QueueOps). z.shuts) error.0;
      steps = one_steps _ _ _ (takes.Lost c.exchange_tail-found.result) (inr passed);
      error = error;
      trace = inr passed;
      handle = search rules;
      hook = inr (passed, paused_last _ _ c.args.end.now _ _ _ _ _ _ _ c.pause_at.ensures.called c.pause_at.ensures.shown (search rules) (then_look _ _ _ _ _ _ (then_look _ _ _ _ _ _ t.found.made f.found) d.found) (x.miss c.if-found-tail.true).0.made);
    }

pub returns : goal.returns
returns g c = let t = c.load_tail-tail.ensures in let f = c.load_flag-flag.ensures in let d = c.load_data-item.ensures in let x = c.exchange_tail-found.ensures in
    let took = took_after g.row.N _ _ _ _ _ (c.load_data-item.result ∷ []) t.found (scanned_more g.row.N _ _ _ _ _ _ _ _ [] (omega arith) (none_scanned g.row.N _ _) f.found c.if-flag-tail.false d.found) (found_more _ _ _ _ _ _ _ _ _ [] (omega arith) (nothing_found _ _ t.tail.0) f.found d.found (f.raised c.if-flag-tail.false) d.item)
    _ (x.hit c.if-found-tail.false) (omega arith) in record {
      effect = took_line g.row.N _ _ _ took;
      result = take_result c.args.end.now _ x.queue.1.3 _ took;
      protocol = were_put g.C.Protocol.allows g.row.N _ _ _ x.kept took;
      kept = each_keeps g.C.Protocol.allows _ x.kept;
      frame = search rules;
      shuts_nothing = took_shuts g.row.N _ _ _ took;
      steps = took_steps _ _ _ _ took;
      error = search rules;
      trace = took;
      handle = search rules;
      hook = paused_last _ _ c.args.end.now _ _ _ _ _ _ _ c.pause_at.ensures.called c.pause_at.ensures.shown (search rules) (then_look _ _ _ _ _ _ (then_look _ _ _ _ _ _ t.found.made f.found) d.found) (x.hit c.if-found-tail.false).1.made;
    }

pub returns-then-flag-tail-clause-shuts_nothing : goal.returns-then-flag-tail-clause-shuts_nothing
returns-then-flag-tail-clause-shuts_nothing g c = ap (λ (z : QueueOps). z.shuts) (returns-then-flag-tail-clause-error g c).0

pub returns-then-flag-tail-clause-steps : goal.returns-then-flag-tail-clause-steps
returns-then-flag-tail-clause-steps g c = one_steps _ _ _ _ (returns-then-flag-tail-clause-trace g c)

pub invariant_of-end : goal.invariant_of-end
invariant_of-end g c = let h = c.args.end.now in let s = stays_both h.seat.me c.load_tail-tail.new.seat.me c.load_flag-flag.new.seat.me c.load_tail-tail.ensures.queue.1 c.load_flag-flag.ensures.queue.1 in record { room = ap (λ (q : Positions). q.room) s.1 ∙ h.room; bare = s.0 ∙ h.bare; one = ap (λ (m : Part). m.ends) s.2 ∙ h.one; ruled = s.3 }

pub invariant_of-end-2 : goal.invariant_of-end-2
invariant_of-end-2 g c = let h = c.args.end.now in let s = stays_both h.seat.me c.load_flag-flag.new.seat.me c.load_data-item.new.seat.me (stays_both h.seat.me c.load_tail-tail.new.seat.me c.load_flag-flag.new.seat.me c.load_tail-tail.ensures.queue.1 c.load_flag-flag.ensures.queue.1) c.load_data-item.ensures.queue.1 in record { room = ap (λ (q : Positions). q.room) s.1 ∙ h.room; bare = s.0 ∙ h.bare; one = ap (λ (m : Part). m.ends) s.2 ∙ h.one; ruled = s.3 }

pub invariant_of-end-3 : goal.invariant_of-end-3
invariant_of-end-3 g c = let h = c.args.end.now in let s = stays_both h.seat.me c.load_data-item.new.seat.me c.exchange_tail-found.new.seat.me (stays_both h.seat.me c.load_flag-flag.new.seat.me c.load_data-item.new.seat.me (stays_both h.seat.me c.load_tail-tail.new.seat.me c.load_flag-flag.new.seat.me c.load_tail-tail.ensures.queue.1 c.load_flag-flag.ensures.queue.1) c.load_data-item.ensures.queue.1) c.exchange_tail-found.ensures.queue.1 in record { room = ap (λ (q : Positions). q.room) s.1 ∙ h.room; bare = s.0 ∙ h.bare; one = ap (λ (m : Part). m.ends) s.2 ∙ h.one; ruled = s.3 }
