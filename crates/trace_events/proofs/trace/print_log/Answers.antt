use Rattle.trace_events.proofs.Common.{ℕ, List, ap, subst, ◌∙◌, OnOk, Entry, end_of, Prints, slice_start, missed_events, runs_events, runs_of}
use Rattle.trace_events.proofs.Printing.{then_prints}
use Rattle.trace_events.proofs.trace.print_log.Goals as goal

pub returns : goal.returns
returns g c =
    let log = c.args.log.now in
    let turns = subst (λ (entries : List Entry). Prints (g.W.Write.contents c.args.out.now) (g.W.Write.contents c.print_turns.new.out) (runs_events c.args.plan.now log.bytes (slice_start c.args.turns.now) c.args.processor 0 c.args.from (runs_of entries))) c.entries-entries.ensures c.in_ok-print_turns.ensures in
    let ends = c.end_of.ensures ∙ ap (end_of c.args.from) c.entries-entries.ensures in
    let timed = subst (λ (at : ℕ). OnOk c.print_missed.result (Prints (g.W.Write.contents c.print_turns.new.out) (g.W.Write.contents c.print_missed.new.out) (missed_events c.args.processor at c.missed.result))) ends c.print_missed.ensures in
    let missed = subst (λ (turns : ℕ). OnOk c.print_missed.result (Prints (g.W.Write.contents c.print_turns.new.out) (g.W.Write.contents c.print_missed.new.out) (missed_events c.args.processor (end_of c.args.from log.entries) turns))) c.missed.ensures timed in
    then_prints c.print_missed.result _ _ _ _ _ turns missed
