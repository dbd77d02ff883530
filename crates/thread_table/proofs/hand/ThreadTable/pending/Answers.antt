use Rattle.thread_table.proofs.Common.{refl, ELEMENTS, ◌<◌, rules, ap, state_word, ◌∙◌, sym, merely}
use Rattle.thread_table.proofs.Events.Steps.{found_at}
use Rattle.thread_table.proofs.Clients.{look_effect, pending_result}
use Rattle.thread_table.proofs.Hands.Unchanged.{stays_by, alike_by_look}
use Rattle.thread_table.proofs.ClientBounds.{pending_bound}
use Rattle.thread_table.proofs.hand.ThreadTable.pending.Goals as goal

pub returns-clause-trace : goal.returns-clause-trace
returns-clause-trace c = let l = found_at (ap state_word c.number.ensures.value) c.load_state-word.ensures.found in (c.load_state-word.result, _, c.pending.ensures, l.acts)

pub returns-clause-effect : goal.returns-clause-effect
returns-clause-effect c = let t = returns-clause-trace c in look_effect _ _ _ t.3 (refl, tt)

pub returns-clause-result : goal.returns-clause-result
returns-clause-result c = let known : c.args.element < ELEMENTS = search rules in pending_result c.args.element known _ _ c.load_state-word.ensures.found.valid _ (returns-clause-trace c)

pub returns-clause-frame : goal.returns-clause-frame
returns-clause-frame c = let t = returns-clause-trace c in (stays_by _ _ _ t.3).keeps

pub returns-clause-steps : goal.returns-clause-steps
returns-clause-steps c = pending_bound c.args.element _ _ _ (returns-clause-trace c)

pub invariant_of-hand : goal.invariant_of-hand
invariant_of-hand c = let h = c.args.hand.now in let a = c.load_state-word.ensures in let s = alike_by_look _ _ _ a.found.acts in record { bare = a.queue.1 ∙ h.bare; one = s.ends ∙ h.one; none = s.claimed ∙ h.none; fresh = s.fresh; holding = h.holding ∙ sym s.held; serving = h.serving ∙ sym s.serves; putting = h.putting ∙ sym s.on; valid = merely a.found.valid; stands = a.stands }
