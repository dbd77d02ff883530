use Rattle.trace_events.proofs.Common.{subst, sym, ◌∙◌, List, ℕ, length, arith, OnOk, Json, IsEvent, Prints, slice_start, idle_event}
use Rattle.trace_events.proofs.Printing.{prints_text}
use Rattle.trace_events.proofs.Runs.{idle_run}
use Rattle.trace_events.proofs.turns.print_run.Goals as goal

pub returns-then-is_idle : goal.returns-then-is_idle
returns-then-is_idle g c =
    let run = c.args.run.now in
    let event = subst (λ (until : ℕ). IsEvent c.in_ok-text.text.items (idle_event c.args.processor c.args.from until (length run))) c.end_of.ensures c.in_ok-text.ensures in
    let one = idle_run c.args.plan.now c.args.log.now.bytes (slice_start c.args.turns.now) c.args.processor c.args.number c.args.from run c.entry-item.result (omega (arith, c.in-len1-up.len_at_least)) c.entry-item.is (sym c.is_idle.ensures ∙ c.if-is_idle.true) in
    subst (λ (events : List Json). OnOk c.print_later.result (Prints (g.W.Write.contents c.args.out.now) (g.W.Write.contents c.print_later.new.out) events)) (sym one)
    (prints_text c.print_later.result _ _ _ _ _ event c.deref.ensures.value c.print_later.ensures)
