use Rattle.thread_table.proofs.Common.{ELEMENTS, ◌<◌, ◌∙◌, rules, refl, sym, transport, merely, view_of, arith}
use Rattle.thread_table.specs.Steps.{ReadPc}
use Rattle.thread_table.proofs.Events.StatesSeen.{read_pc}
use Rattle.thread_table.proofs.Clients.{pc_effect, pc_result}
use Rattle.thread_table.proofs.Hands.Unchanged.{alike, counts_stay}
use Rattle.thread_table.proofs.ClientBounds.{pc_bound}
use Rattle.thread_table.proofs.hand.ThreadTable.pc.Goals as goal

pub returns-clause-trace : goal.returns-clause-trace
returns-clause-trace c = let n = c.number.ensures in read_pc _ _ _ _ (search rules) (transport (λ i. ReadPc (n.value i) (view_of c.args.hand.now) c.load_done.result c.load_done.new.seat.me.0) c.load_done.ensures.counted)

pub returns-clause-effect : goal.returns-clause-effect
returns-clause-effect c = pc_effect c.args.element _ _ _ (returns-clause-trace c)

pub returns-clause-result : goal.returns-clause-result
returns-clause-result c = let known : c.args.element < ELEMENTS = search rules in pc_result c.args.element known _ _ c.load_done.ensures.counted.valid _ (returns-clause-trace c)

pub returns-clause-frame : goal.returns-clause-frame
returns-clause-frame c = (counts_stay c.args.element _ _ _ (returns-clause-trace c)).keeps

pub returns-clause-steps : goal.returns-clause-steps
returns-clause-steps c = pc_bound 1 c.args.element _ _ _ (omega arith) (returns-clause-trace c)

pub invariant_of-hand : goal.invariant_of-hand
invariant_of-hand c = let h = c.args.hand.now in let a = c.load_done.ensures in let s = alike _ _ _ _ a.counted.acts refl refl refl refl refl in record { bare = a.queue.1 ∙ h.bare; one = s.ends ∙ h.one; none = s.claimed ∙ h.none; fresh = s.fresh; holding = h.holding ∙ sym s.held; serving = h.serving ∙ sym s.serves; putting = h.putting ∙ sym s.on; valid = merely a.counted.valid; stands = a.stands }
