use Rattle.thread_table.proofs.Common.{rules, refl, subst, ℕ, Final, slots_items, Rule}
use Rattle.atomic_table.specs.Table.{Seen}
use Rattle.thread_table.proofs.Closing.Settling.{were_open, closes}
use Rattle.thread_table.proofs.Hands.CountSteps.{tallies_ends}
use Rattle.thread_table.proofs.ClientHands.{open_effect, open_frame, open_error, open_bound, close_result}
use Rattle.thread_table.proofs.hand.ThreadTable.close.Goals as goal

pub count-requires-clause-allowed : goal.count-requires-clause-allowed
count-requires-clause-allowed c = tallies_ends _ _ _ _ _ refl c.args.hand.one c.args.hand.fresh

pub returns-in-Err-clause-trace : goal.returns-in-Err-clause-trace
returns-in-Err-clause-trace c = let o = c.in-Err.ensures.frame in were_open _ _ _ _ o.3.0 o.0 (search rules)

pub returns-in-Err-clause-only : goal.returns-in-Err-clause-only
returns-in-Err-clause-only c = let o = c.in-Err.ensures.frame in λ whole. o.0 (o.3.0.count.whole whole)

pub returns-clause-closed : goal.returns-clause-closed
returns-clause-closed c = let key = c.args.self.table.shared.key in let ws = slots_items c.close_by-closed.result.words in let xs = slots_items c.close_by-closed.result.slots in let o = c.in-Ok.ensures.alone in let w = c.in-Ok.last.seat.me.0 in
    closes key _ w _ _ ws xs _ _ _ _ c.args.hand.fresh c.args.hand.none o.1.0 refl
    (subst (λ (n : ℕ). Final (Seen (Rule key) n w) ws xs) o.0.1 c.close_by-closed.ensures.values.2)
    c.read_places.ensures c.read_pcs.ensures c.read_pending.ensures c.read_stops.ensures

pub returns-in-Err-clause-effect : goal.returns-in-Err-clause-effect
returns-in-Err-clause-effect c = open_effect _ _ _ (returns-in-Err-clause-trace c)

pub returns-in-Err-clause-frame : goal.returns-in-Err-clause-frame
returns-in-Err-clause-frame c = open_frame _ _ _ (returns-in-Err-clause-trace c)

pub returns-in-Err-clause-error : goal.returns-in-Err-clause-error
returns-in-Err-clause-error c = open_error _ _ _ (returns-in-Err-clause-trace c)

pub returns-in-Err-clause-steps : goal.returns-in-Err-clause-steps
returns-in-Err-clause-steps c = open_bound _ _ _ (returns-in-Err-clause-trace c)

pub returns-clause-effect : goal.returns-clause-effect
returns-clause-effect c = (returns-clause-closed c).made

pub returns-clause-result : goal.returns-clause-result
returns-clause-result c = close_result _ _ _ _ _ _ (returns-clause-closed c)

pub returns-clause-owns : goal.returns-clause-owns
returns-clause-owns c = (returns-clause-closed c).whole
