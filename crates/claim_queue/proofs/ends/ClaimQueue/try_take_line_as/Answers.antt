use Rattle.claim_queue.proofs.Common.{rules, ap, ◌≡◌, ◌+◌, inr, arith, ℕ, length, IsBegun, IsLine, QueueOps, ◌∙◌, Part, Positions}
use Rattle.claim_queue.proofs.Brevity.{took_steps}
use Rattle.claim_queue.proofs.Clients.{line_error, take_result, took_shuts}
use Rattle.claim_queue.proofs.Emptying.{refused_few, passed_meanwhile, took_after}
use Rattle.claim_queue.proofs.Lining.{took_line}
use Rattle.claim_queue.proofs.Permits.{each_keeps, were_put}
use Rattle.claim_queue.proofs.Scanning.{nothing_found}
use Rattle.claim_queue.specs.declared.take.TakeRefusal.TheVariants as takes
use Rattle.claim_queue.proofs.ends.ClaimQueue.try_take_line_as.Goals as goal

pub scan-requires : goal.scan-requires
scan-requires g c = let found = nothing_found c.load_tail-tail.new.seat.me.0 _ c.load_tail-tail.ensures.tail.0 in search rules

pub returns-then-not-scan-clause-trace : goal.returns-then-not-scan-clause-trace
returns-then-not-scan-clause-trace g c = let s = c.if-not-scan.ensures.trace in
    refused_few (IsBegun g.row.N) g.row.N _ _ _ _ _ _ c.load_tail-tail.ensures.found s.1 s.0 (IsLine g.row.N) _ _ (ap (λ (z : ℕ). c.load_tail-tail.result + z) c.len.ensures.value) c.refusal_at.ensures.why

pub returns-then-not-scan-clause-error : goal.returns-then-not-scan-clause-error
returns-then-not-scan-clause-error g c = let s = c.if-not-scan.ensures.trace in
    line_error c.args.end.now _ c.refusal_at.new.end.ruled _ (refused_few (IsBegun g.row.N) g.row.N _ _ _ _ _ _ c.load_tail-tail.ensures.found s.1 s.0 (IsLine g.row.N) _ _ (ap (λ (z : ℕ). c.load_tail-tail.result + z) c.len.ensures.value) c.refusal_at.ensures.why)

pub returns-then-found-tail-clause-trace : goal.returns-then-found-tail-clause-trace
returns-then-found-tail-clause-trace g c = let s = c.if-not-scan.ensures.trace in
    inr (passed_meanwhile g.row.N _ _ _ _ _ _ c.load_tail-tail.ensures.found s.0 c.scan.ensures.found (IsLine g.row.N) _ s.1 (c.exchange_tail-found.ensures.miss c.if-found-tail.true).0 c.if-found-tail.true)

pub returns-then-found-tail-clause-error : goal.returns-then-found-tail-clause-error
returns-then-found-tail-clause-error g c = let s = c.if-not-scan.ensures.trace in let x = c.exchange_tail-found.ensures in
    line_error c.args.end.now _ x.queue.1.3 (takes.Lost c.exchange_tail-found.result) (inr (passed_meanwhile g.row.N _ _ _ _ _ _ c.load_tail-tail.ensures.found s.0 c.scan.ensures.found (IsLine g.row.N) _ s.1 (x.miss c.if-found-tail.true).0 c.if-found-tail.true))

pub returns : goal.returns
returns g c = let s = c.if-not-scan.ensures.trace in let x = c.exchange_tail-found.ensures in let n : c.len-count.result ≡ length c.scan.new.line.items = c.len-count.ensures.value in
    let t = took_after g.row.N _ _ _ _ _ _ c.load_tail-tail.ensures.found s.0 c.scan.ensures.found _ (x.hit c.if-found-tail.false) (omega arith) in record {
      effect = took_line g.row.N _ _ _ t;
      result = take_result c.args.end.now _ x.queue.1.3 _ t;
      protocol = were_put g.C.Protocol.allows g.row.N _ _ _ x.kept t;
      kept = each_keeps g.C.Protocol.allows _ x.kept;
      frame = search rules;
      shuts_nothing = took_shuts g.row.N _ _ _ t;
      steps = took_steps _ _ _ _ t;
      error = search rules;
      line = (n, s.1);
      trace = t;
      handle = search rules;
    }

pub returns-then-not-scan-clause-shuts_nothing : goal.returns-then-not-scan-clause-shuts_nothing
returns-then-not-scan-clause-shuts_nothing g c = ap (λ (z : QueueOps). z.shuts) (returns-then-not-scan-clause-error g c).0

pub returns-then-found-tail-clause-shuts_nothing : goal.returns-then-found-tail-clause-shuts_nothing
returns-then-found-tail-clause-shuts_nothing g c = ap (λ (z : QueueOps). z.shuts) (returns-then-found-tail-clause-error g c).0

pub invariant_of-end : goal.invariant_of-end
invariant_of-end g c = let h = c.args.end.now in let s = c.load_tail-tail.ensures.queue.1 in record { room = ap (λ (q : Positions). q.room) s.1 ∙ h.room; bare = s.0 ∙ h.bare; one = ap (λ (m : Part). m.ends) s.2 ∙ h.one; ruled = s.3 }

pub invariant_of-end-2 : goal.invariant_of-end-2
invariant_of-end-2 g c = let h = c.scan.new.end in let s = c.exchange_tail-found.ensures.queue.1 in record { room = ap (λ (q : Positions). q.room) s.1 ∙ h.room; bare = s.0 ∙ h.bare; one = ap (λ (m : Part). m.ends) s.2 ∙ h.one; ruled = s.3 }
