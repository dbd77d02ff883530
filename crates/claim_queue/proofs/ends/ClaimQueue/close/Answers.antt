use Rattle.claim_queue.proofs.Common.{rules, refl, sym, subst, arith, ◌∙◌, ◌+◌, ◌-◌, ◌%◌, ◌≤◌, ℕ, slots_items, left_from, ends_word, ap, Part, Positions, merely}
use Rattle.table_theory.proofs.Moments.{why_open}
use Rattle.table_theory.specs.Ledgers.{WereOpen}
use Rattle.claim_queue.proofs.Settling.{spans, closes}
use Rattle.claim_queue.proofs.Under.{final_under, tallies_as}
use Rattle.claim_queue.proofs.ends.ClaimQueue.close.Goals as goal

pub count-requires-clause-allowed : goal.count-requires-clause-allowed
count-requires-clause-allowed g c = tallies_as g.C.Protocol.allows _ _ _ _ c.args.end.one

pub read_left-left-requires : goal.read_left-left-requires
read_left-left-requires g c = let s = spans c.args.self.table.shared.key _ _ _ _ _ _ (final_under g.C.Protocol.allows _ _ _ _ _ c.close_by-closed.ensures.values.2) c.word-head.ensures c.word-tail.ensures in
    (search rules, (search rules, (s.taken_within, subst (λ (z : ℕ). c.word-head.result % 4294967296 ≤ c.word-tail.result + z) c.args.self.shaped.1 s.within, s.bounded)))

pub overflow_sub-result-2 : goal.overflow_sub-result-2
overflow_sub-result-2 g c = let s = spans c.args.self.table.shared.key _ _ _ _ _ _ (final_under g.C.Protocol.allows _ _ _ _ _ c.close_by-closed.ensures.values.2) c.word-head.ensures c.word-tail.ensures in let following = s.taken_within in let started = s.started in let first = c.args.self.shaped.0 in omega arith

pub overflow_sub-result-3 : goal.overflow_sub-result-3
overflow_sub-result-3 g c = let s = spans c.args.self.table.shared.key _ _ _ _ _ _ (final_under g.C.Protocol.allows _ _ _ _ _ c.close_by-closed.ensures.values.2) c.word-head.ensures c.word-tail.ensures in let started = s.started in let first = c.args.self.shaped.0 in omega arith

pub overflow_cast-result-4 : goal.overflow_cast-result-4
overflow_cast-result-4 g c = let s = spans c.args.self.table.shared.key _ _ _ _ _ _ (final_under g.C.Protocol.allows _ _ _ _ _ c.close_by-closed.ensures.values.2) c.word-head.ensures c.word-tail.ensures in let following = s.taken_within in let bounded = s.bounded in omega arith

pub returns-clause-closed : goal.returns-clause-closed
returns-clause-closed g c = let k = c.args.self.table.shared.key in let first = c.args.self.shaped.0 in let room = c.args.self.shaped.1 in let ws = slots_items c.close_by-closed.result.words in (
  refl,
  closes k _ _ _ _ c.word-head.result c.word-tail.result _ _ ws _ _ c.args.self.first c.args.end.one first c.in-Ok.ensures.alone.1.1 refl (final_under g.C.Protocol.allows _ _ _ _ _ c.close_by-closed.ensures.values.2) c.word-head.ensures c.word-tail.ensures
      (λ i. c.word-head.result % 4294967296 - sym first i) (λ i. c.word-tail.result - sym first i) (c.read_left-left.ensures ∙ (λ i. left_from (sym room i) ws c.word-tail.result (c.word-head.result % 4294967296 - c.word-tail.result))),
)

pub returns-in-Err-clause-error : goal.returns-in-Err-clause-error
returns-in-Err-clause-error g c = let others : WereOpen ends_word c.args.end.seat.me.0 (c.in-Err.ends - 1) c.in-Err.seat.me.0 = search rules in why_open ends_word (c.in-Err.ends - 1) _ _ others

pub invariant_of-result : goal.invariant_of-result
invariant_of-result g c = let h = c.args.end in let s = c.in-Err.ensures.frame in let t = s.3.1.made in record { room = ap (λ (q : Positions). q.room) t.adds.first ∙ h.room; bare = s.2 ∙ h.bare; one = ap (λ (m : Part). m.ends) t.member ∙ h.one; ruled = merely s.3.0 }
