use Rattle.proc_chain.proofs.Common.{refl, sym, subst, ◌∙◌, ◌≤◌, ℕ, ◌≡◌, true, false, true≢false, arith, ChainOps, suits, makes, with_turn, run}
use Rattle.proc_chain.proofs.Finding.{gate_says, looks_found, looks_on, rests_on, seen_notes, reported_after, slot_on, slot_up}
use Rattle.proc_chain.proofs.Clients.{same_only, run_here, left_there, why_full, why_lost, why_spent}
use Rattle.proc_chain.proofs.Linking.{both_found, three_found, same_notes, put_note, was_lost, just_claimed, claimed_at, link, chained, chained_seen, chained_rests, won_slot}
use Rattle.proc_chain.proofs.ends.ProcChain.try_chain.Goals as goal

-- the refusals

pub returns-then-head-ge-POSITIONS-clause-ends : goal.returns-then-head-ge-POSITIONS-clause-ends
returns-then-head-ge-POSITIONS-clause-ends g c = let end = c.args.end.now in let a = c.load-head.ensures in let s = looks_found _ _ _ _ a.found in let pact = c.args.self.now.table.shared.key.pact in
    (a.frame.0.0 ∙ c.requires.0, slot_on (makes g.Q.Quaject.made_by pact) (suits g.Q.Quaject.fits pact) end.seat.me.0 c.load-head.new.seat.me.0 _ _ (seen_notes _ _ s.seen (reported_after _ end.valid)) (λ i. (s.own i).runner) a.frame.1.0 c.requires.1)

pub returns-then-head-tail-clause-ends : goal.returns-then-head-tail-clause-ends
returns-then-head-tail-clause-ends g c = let end = c.args.end.now in let a = c.load-head.ensures in let b = c.load-tail.ensures in let s = looks_on _ _ _ (looks_found _ _ _ _ a.found) (looks_found _ _ _ _ b.found) in let pact = c.args.self.now.table.shared.key.pact in
    (b.frame.0.0 ∙ (a.frame.0.0 ∙ c.requires.0), slot_on (makes g.Q.Quaject.made_by pact) (suits g.Q.Quaject.fits pact) end.seat.me.0 c.load-tail.new.seat.me.0 _ _ (seen_notes _ _ s.seen (reported_after _ end.valid)) (λ i. (s.own i).runner) (b.frame.1.0 ∙ a.frame.1.0) c.requires.1)

pub returns-then-found-head-clause-ends : goal.returns-then-found-head-clause-ends
returns-then-found-head-clause-ends g c = let end = c.args.end.now in let a = c.load-head.ensures in let b = c.load-tail.ensures in let e = c.exchange_head-found.ensures in let s = looks_on _ _ _ (looks_on _ _ _ (looks_found _ _ _ _ a.found) (looks_found _ _ _ _ b.found)) (looks_found _ _ _ _ (e.miss c.if-found-head.true)) in let pact = c.args.self.now.table.shared.key.pact in
    (e.frame.0.0 ∙ (b.frame.0.0 ∙ (a.frame.0.0 ∙ c.requires.0)), slot_on (makes g.Q.Quaject.made_by pact) (suits g.Q.Quaject.fits pact) end.seat.me.0 c.exchange_head-found.new.seat.me.0 _ _ (seen_notes _ _ s.seen (reported_after _ end.valid)) (λ i. (s.own i).runner) (e.frame.1.0 ∙ (b.frame.1.0 ∙ a.frame.1.0)) c.requires.1)

pub invariant_of-end-then-found-head : goal.invariant_of-end-then-found-head
invariant_of-end-then-found-head g c = let end = c.args.end.now in let a = c.load-head.ensures in let b = c.load-tail.ensures in let e = c.exchange_head-found.ensures in let s = looks_on _ _ _ (looks_on _ _ _ (looks_found _ _ _ _ a.found) (looks_found _ _ _ _ b.found)) (looks_found _ _ _ _ (e.miss c.if-found-head.true)) in
    record { turned = (λ i. (s.own i).runner) ∙ end.turned; rests = rests_on _ _ (λ i. (s.seen.member i).ends) (λ i. (s.own i).runs) (λ i. (s.own i).owes) end.rests; valid = ∣ e.frame.1.1 ∣₁ }

pub returns-then-found-head-clause-trace : goal.returns-then-found-head-clause-trace
returns-then-found-head-clause-trace g c = was_lost _ _ _ _ _ _ _ c.load-head.ensures.found c.load-tail.ensures.found (c.exchange_head-found.ensures.miss c.if-found-head.true) c.if-head-ge-POSITIONS.false c.if-head-tail.false c.if-found-head.true

pub returns-then-head-ge-POSITIONS-clause-error : goal.returns-then-head-ge-POSITIONS-clause-error
returns-then-head-ge-POSITIONS-clause-error g c = why_spent _ _ _ c.load-head.ensures.found c.if-head-ge-POSITIONS.true

pub returns-then-head-ge-POSITIONS-clause-frame : goal.returns-then-head-ge-POSITIONS-clause-frame
returns-then-head-ge-POSITIONS-clause-frame g c = same_only _ _ _ c.load-head.ensures.found.1.made (refl, tt)

pub returns-then-head-tail-clause-error : goal.returns-then-head-tail-clause-error
returns-then-head-tail-clause-error g c = why_full _ _ _ _ _ c.load-head.ensures.found c.load-tail.ensures.found c.if-head-ge-POSITIONS.false (let over = c.if-head-tail.true in omega arith)

pub returns-then-head-tail-clause-frame : goal.returns-then-head-tail-clause-frame
returns-then-head-tail-clause-frame g c = same_only _ _ _ (both_found _ _ _ _ _ c.load-head.ensures.found c.load-tail.ensures.found) (refl, (refl, tt))

pub returns-then-found-head-clause-error : goal.returns-then-found-head-clause-error
returns-then-found-head-clause-error g c = why_lost _ _ _ _ _ _ _ c.load-head.ensures.found c.load-tail.ensures.found (c.exchange_head-found.ensures.miss c.if-found-head.true) c.if-head-ge-POSITIONS.false (let room = c.if-head-tail.false in omega arith) c.if-found-head.true

pub returns-then-found-head-clause-frame : goal.returns-then-found-head-clause-frame
returns-then-found-head-clause-frame g c = same_only _ _ _ (three_found _ _ _ _ _ _ _ c.load-head.ensures.found c.load-tail.ensures.found (c.exchange_head-found.ensures.miss c.if-found-head.true)) (refl, (refl, (refl, tt)))

pub returns-then-found-head-clause-owns : goal.returns-then-found-head-clause-owns
returns-then-found-head-clause-owns g c = (three_found _ _ _ _ _ _ _ c.load-head.ensures.found c.load-tail.ensures.found (c.exchange_head-found.ensures.miss c.if-found-head.true)).member

pub returns-then-head-tail-clause-owns : goal.returns-then-head-tail-clause-owns
returns-then-head-tail-clause-owns g c = (both_found _ _ _ _ _ c.load-head.ensures.found c.load-tail.ensures.found).member

-- the claim, the raise and the notify

pub store_place-requires-clause-mine : goal.store_place-requires-clause-mine
store_place-requires-clause-mine g c = just_claimed _ _ _ _ _ (c.exchange_head-found.ensures.hit c.if-found-head.false) refl

pub swap_more-requires-clause-live : goal.swap_more-requires-clause-live
swap_more-requires-clause-live g c = let end = c.args.end.now in let a = c.load-head.ensures in let b = c.load-tail.ensures in let e = c.exchange_head-found.ensures in let h = e.hit c.if-found-head.false in let r = c.store_place.ensures.raised (run c.load-head.result c.args.note) (claimed_at _ _ _ _ h) in let l = link _ _ _ _ _ _ _ c.args.note a.found b.found h r in (subst (λ (z : ℕ). 1 ≤ z) (sym ((λ i. (l.member i).ends) ∙ end.rests.one)) (omega arith), λ i. (l.did i).owes)

pub invariant_of-end-in-Some : goal.invariant_of-end-in-Some
invariant_of-end-in-Some g c = let end = c.args.end.now in let a = c.load-head.ensures in let b = c.load-tail.ensures in let e = c.exchange_head-found.ensures in let h = e.hit c.if-found-head.false in let r = c.store_place.ensures.raised (run c.load-head.result c.args.note) (claimed_at _ _ _ _ h) in let w = c.in-Some.ensures.notified in let then = with_turn w.1.0.object.queue.taken in let d = chained _ _ _ _ _ _ _ c.args.note a.found b.found h r _ 0 w.1.0 then w.1.1 c.if-head-ge-POSITIONS.false (omega (arith, c.if-head-tail.false)) in
    record { turned = λ i. (d.1.did i).runner; rests = chained_rests _ _ c.args.note _ then d (λ d. refl) (λ d. refl) end.rests; valid = ∣ c.swap_more.ensures.frame.1 ∣₁ }

pub returns-in-Some : goal.returns-in-Some
returns-in-Some g c = let end = c.args.end.now in let a = c.load-head.ensures in let b = c.load-tail.ensures in let e = c.exchange_head-found.ensures in let h = e.hit c.if-found-head.false in let r = c.store_place.ensures.raised (run c.load-head.result c.args.note) (claimed_at _ _ _ _ h) in let w = c.in-Some.ensures.notified in let then = with_turn w.1.0.object.queue.taken in let d = chained _ _ _ _ _ _ _ c.args.note a.found b.found h r _ 0 w.1.0 then w.1.1 c.if-head-ge-POSITIONS.false (omega (arith, c.if-head-tail.false)) in let x = c.store_place.ensures.frame.0 in let y = c.swap_more.ensures.frame.0 in let pact = c.args.self.now.table.shared.key.pact in let down = sym (λ i. ((link _ _ _ _ _ _ _ c.args.note a.found b.found h r).did i).runner) ∙ w.0 in record {
  effect = put_note _ _ _ _ then (λ d. refl) (λ d. refl) d.1.did;
  result = run_here _ _ _ _ _ _ _ _ _ c.args.note a.found b.found h r w.1.0 then w.1.1 c.if-head-ge-POSITIONS.false (omega (arith, c.if-head-tail.false)) (λ d. refl) (sym (gate_says _ refl w.1.1.real));
  frame = tt;
  owns = d.1.member;
  error = tt;
  turn = λ _. (sym end.turned ∙ down, refl);
  kept = λ (is : true ≡ false). absurd (true≢false is);
  trace = (_, refl, d);
  ends = (y.0 ∙ (x.0 ∙ (e.frame.0.0 ∙ (b.frame.0.0 ∙ (a.frame.0.0 ∙ c.requires.0)))), slot_up (makes g.Q.Quaject.made_by pact) (suits g.Q.Quaject.fits pact) c.swap_more.new.seat.me (λ i. (d.1.did i).runner) (won_slot (makes g.Q.Quaject.made_by pact) (suits g.Q.Quaject.fits pact) _ _ _ _ _ _ w.1.1 ((c.store_place.ensures.frame.1.0 ∙ (e.frame.1.0 ∙ (b.frame.1.0 ∙ a.frame.1.0))) ∙ c.requires.1.1 down) w.1.2));
  handle = ((y.0 ∙ (x.0 ∙ (e.frame.0.0 ∙ (b.frame.0.0 ∙ a.frame.0.0))), y.1 ∙ (x.1 ∙ (e.frame.0.1 ∙ (b.frame.0.1 ∙ a.frame.0.1)))), (chained_seen _ _ _ _ _ _ _ c.args.note a.found b.found h r _ 0 w.1.0 then w.1.1).taken);
}

pub invariant_of-end-in-None : goal.invariant_of-end-in-None
invariant_of-end-in-None g c = let end = c.args.end.now in let a = c.load-head.ensures in let b = c.load-tail.ensures in let e = c.exchange_head-found.ensures in let h = e.hit c.if-found-head.false in let r = c.store_place.ensures.raised (run c.load-head.result c.args.note) (claimed_at _ _ _ _ h) in let w = c.in-None.ensures.notified in let then : ChainOps → ChainOps = λ d. d in let d = chained _ _ _ _ _ _ _ c.args.note a.found b.found h r _ _ w.2.1.0 then w.2.1.1 c.if-head-ge-POSITIONS.false (omega (arith, c.if-head-tail.false)) in
    record { turned = (λ i. (d.1.did i).runner) ∙ end.turned; rests = chained_rests _ _ c.args.note _ then d (λ d. refl) (λ d. refl) end.rests; valid = ∣ c.swap_more.ensures.frame.1 ∣₁ }

pub returns-in-None-clause-effect : goal.returns-in-None-clause-effect
returns-in-None-clause-effect g c = let end = c.args.end.now in let a = c.load-head.ensures in let b = c.load-tail.ensures in let e = c.exchange_head-found.ensures in let h = e.hit c.if-found-head.false in let r = c.store_place.ensures.raised (run c.load-head.result c.args.note) (claimed_at _ _ _ _ h) in let w = c.in-None.ensures.notified in let then : ChainOps → ChainOps = λ d. d in let d = chained _ _ _ _ _ _ _ c.args.note a.found b.found h r _ _ w.2.1.0 then w.2.1.1 c.if-head-ge-POSITIONS.false (omega (arith, c.if-head-tail.false)) in put_note _ _ _ _ then (λ d. refl) (λ d. refl) d.1.did

pub returns-in-None-clause-owns : goal.returns-in-None-clause-owns
returns-in-None-clause-owns g c = let end = c.args.end.now in let a = c.load-head.ensures in let b = c.load-tail.ensures in let e = c.exchange_head-found.ensures in let h = e.hit c.if-found-head.false in let r = c.store_place.ensures.raised (run c.load-head.result c.args.note) (claimed_at _ _ _ _ h) in let w = c.in-None.ensures.notified in let then : ChainOps → ChainOps = λ d. d in let d = chained _ _ _ _ _ _ _ c.args.note a.found b.found h r _ _ w.2.1.0 then w.2.1.1 c.if-head-ge-POSITIONS.false (omega (arith, c.if-head-tail.false)) in d.1.member

pub returns-in-None-clause-result : goal.returns-in-None-clause-result
returns-in-None-clause-result g c = let a = c.load-head.ensures in let b = c.load-tail.ensures in let e = c.exchange_head-found.ensures in let h = e.hit c.if-found-head.false in let r = c.store_place.ensures.raised (run c.load-head.result c.args.note) (claimed_at _ _ _ _ h) in let w = c.in-None.ensures.notified in let then : ChainOps → ChainOps = λ d. d in
    left_there _ _ _ _ _ _ _ _ c.args.note _ a.found b.found h r w.2.1.0 then w.2.1.1 c.if-head-ge-POSITIONS.false (omega (arith, c.if-head-tail.false)) (λ d. refl) (λ idle. w.2.0 (gate_says _ refl w.2.1.1.real ∙ idle))

pub returns-in-None-clause-trace : goal.returns-in-None-clause-trace
returns-in-None-clause-trace g c = let end = c.args.end.now in let a = c.load-head.ensures in let b = c.load-tail.ensures in let e = c.exchange_head-found.ensures in let h = e.hit c.if-found-head.false in let r = c.store_place.ensures.raised (run c.load-head.result c.args.note) (claimed_at _ _ _ _ h) in let w = c.in-None.ensures.notified in let then : ChainOps → ChainOps = λ d. d in let d = chained _ _ _ _ _ _ _ c.args.note a.found b.found h r _ _ w.2.1.0 then w.2.1.1 c.if-head-ge-POSITIONS.false (omega (arith, c.if-head-tail.false)) in (_, w.2.0, d)

pub returns-in-None-clause-ends : goal.returns-in-None-clause-ends
returns-in-None-clause-ends g c = let end = c.args.end.now in let a = c.load-head.ensures in let b = c.load-tail.ensures in let e = c.exchange_head-found.ensures in let h = e.hit c.if-found-head.false in let r = c.store_place.ensures.raised (run c.load-head.result c.args.note) (claimed_at _ _ _ _ h) in let w = c.in-None.ensures.notified in let then : ChainOps → ChainOps = λ d. d in let d = chained _ _ _ _ _ _ _ c.args.note a.found b.found h r _ _ w.2.1.0 then w.2.1.1 c.if-head-ge-POSITIONS.false (omega (arith, c.if-head-tail.false)) in let s = chained_seen _ _ _ _ _ _ _ c.args.note a.found b.found h r _ _ w.2.1.0 then w.2.1.1 in let x = c.store_place.ensures.frame.0 in let y = c.swap_more.ensures.frame.0 in let pact = c.args.self.now.table.shared.key.pact in
    (y.0 ∙ (x.0 ∙ (e.frame.0.0 ∙ (b.frame.0.0 ∙ (a.frame.0.0 ∙ c.requires.0)))), slot_on (makes g.Q.Quaject.made_by pact) (suits g.Q.Quaject.fits pact) end.seat.me.0 c.swap_more.new.seat.me.0 _ _ (seen_notes _ _ s (reported_after _ end.valid)) (λ i. (d.1.did i).runner) (w.1 ∙ (c.store_place.ensures.frame.1.0 ∙ (e.frame.1.0 ∙ (b.frame.1.0 ∙ a.frame.1.0)))) c.requires.1)

pub returns-in-None-clause-handle : goal.returns-in-None-clause-handle
returns-in-None-clause-handle g c = let end = c.args.end.now in let a = c.load-head.ensures in let b = c.load-tail.ensures in let e = c.exchange_head-found.ensures in let h = e.hit c.if-found-head.false in let r = c.store_place.ensures.raised (run c.load-head.result c.args.note) (claimed_at _ _ _ _ h) in let w = c.in-None.ensures.notified in let then : ChainOps → ChainOps = λ d. d in let s = chained_seen _ _ _ _ _ _ _ c.args.note a.found b.found h r _ _ w.2.1.0 then w.2.1.1 in let x = c.store_place.ensures.frame.0 in let y = c.swap_more.ensures.frame.0 in
    ((y.0 ∙ (x.0 ∙ (e.frame.0.0 ∙ (b.frame.0.0 ∙ a.frame.0.0))), y.1 ∙ (x.1 ∙ (e.frame.0.1 ∙ (b.frame.0.1 ∙ a.frame.0.1)))), s.taken)

pub invariant_of-end : goal.invariant_of-end
invariant_of-end g c = let end = c.args.end.now in let a = c.load-head.ensures in let s = looks_found _ _ _ _ a.found in
    record { turned = (λ i. (s.own i).runner) ∙ end.turned; rests = rests_on _ _ (λ i. (s.seen.member i).ends) (λ i. (s.own i).runs) (λ i. (s.own i).owes) end.rests; valid = ∣ a.frame.1.1 ∣₁ }

pub invariant_of-end-then-head-tail : goal.invariant_of-end-then-head-tail
invariant_of-end-then-head-tail g c = let end = c.args.end.now in let a = c.load-head.ensures in let b = c.load-tail.ensures in let s = looks_on _ _ _ (looks_found _ _ _ _ a.found) (looks_found _ _ _ _ b.found) in
    record { turned = (λ i. (s.own i).runner) ∙ end.turned; rests = rests_on _ _ (λ i. (s.seen.member i).ends) (λ i. (s.own i).runs) (λ i. (s.own i).owes) end.rests; valid = ∣ b.frame.1.1 ∣₁ }

pub returns-then-head-ge-POSITIONS-clause-trace : goal.returns-then-head-ge-POSITIONS-clause-trace
returns-then-head-ge-POSITIONS-clause-trace g c = let f = c.load-head.ensures.found in (c.load-head.result, f.0, c.if-head-ge-POSITIONS.true, f.1.made)

pub returns-then-head-tail-clause-trace : goal.returns-then-head-tail-clause-trace
returns-then-head-tail-clause-trace g c = let f = c.load-head.ensures.found in let e = c.load-tail.ensures.found in (f.0, e.0, c.if-head-ge-POSITIONS.false, (let over = c.if-head-tail.true in omega arith), both_found _ _ _ _ _ f e)

pub returns-then-head-ge-POSITIONS-clause-effect : goal.returns-then-head-ge-POSITIONS-clause-effect
returns-then-head-ge-POSITIONS-clause-effect g c = same_notes _ _ c.load-head.ensures.found.1.made.did

pub returns-then-head-tail-clause-effect : goal.returns-then-head-tail-clause-effect
returns-then-head-tail-clause-effect g c = same_notes _ _ (both_found _ _ _ _ _ c.load-head.ensures.found c.load-tail.ensures.found).did

pub returns-then-found-head-clause-effect : goal.returns-then-found-head-clause-effect
returns-then-found-head-clause-effect g c = same_notes _ _ (three_found _ _ _ _ _ _ _ c.load-head.ensures.found c.load-tail.ensures.found (c.exchange_head-found.ensures.miss c.if-found-head.true)).did

pub returns-then-head-ge-POSITIONS-clause-owns : goal.returns-then-head-ge-POSITIONS-clause-owns
returns-then-head-ge-POSITIONS-clause-owns g c = c.load-head.ensures.found.1.made.member
